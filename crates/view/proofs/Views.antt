-- Laws of views. A law of view bytes is a test that the checker computes over all of them, carried to each.
use Prim.Native.Nat.{ℕ, ◌≤◌, ◌<◌, ◌*◌, ◌/◌, ◌%◌, ◌^◌}
use mathlib.Core.Path.{◌≡◌, refl}
use mathlib.Core.Bool.{true, not}
use native.Mathlib.Omega.{arith}
use borrow.Author.Tests.{eqb-true, le-leb}
use lib.Dec.{eqb}
use Rattle.std.proofs.lemmas.Bool.{agree_below, agree_below_at}
use Rattle.view.specs.Logic.{all_up_to}
use Rattle.view.specs.View.{has, within}
use Rattle.view.proofs.Laws.{all_intro, or_right}
use Rattle.view.proofs.Table.{below}

-- a byte's bit, as the machine shifts it
pub one_bit : (j : ℕ) → j < 8 → 1 * 2 ^ j % 256 ≡ 2 ^ j
one_bit j h = eqb-true _ _ (below 8 (λ i. eqb (1 * 2 ^ i % 256) (2 ^ i)) refl j h)

pub shifted_out : (n v : ℕ) → n < 8 → v < 256 → eqb (v / 2 ^ n) 0 ≡ within n v
unfolding within has all_up_to
shifted_out n v h b =
    agree_below_at (λ m. eqb (v / 2 ^ m) 0) (λ m. within m v) 8 n (below 256 (λ w. agree_below (λ m. eqb (w / 2 ^ m) 0) (λ m. within m w) 8) refl v b) h

-- there are no more than eight processes
pub eight_within : (n v : ℕ) → 8 ≤ n → within n v ≡ true
unfolding within
eight_within n v h = all_intro 8 _ (λ k l u. or_right (not (has v k)) _ (le-leb k n (omega arith)))
