-- Laws of the least process of a view, of parts of a view and of the view of all.
use Prim.Native.Nat.{ℕ, zero, suc, ◌≤◌, ◌<◌, ◌+◌, ◌-◌, ◌/◌, ◌%◌, ◌^◌, min}
use mathlib.Core.Path.{◌≡◌, refl, sym, ◌∙◌, subst}
use mathlib.Core.Bool.{true, false}
use native.Mathlib.Omega.{arith}
use native.Mathlib.Nat.{min-eq_left, pow-suc, div-div-eq-div-mul}
use borrow.Author.Tests.{eqb-true, eq-eqb}
use lib.Dec.{eqb}
use lib.Bits.{bit_and, and_step}
use Rattle.std.proofs.lemmas.Nat.{and_le_l, xor_of_8}
use Rattle.view.specs.Logic.{pick, is_one_of}
use Rattle.view.specs.View.{has, subset, minus, everyone, first_from, least_of}
use Rattle.view.proofs.Laws.{by_pick, by_test, by_number, true_is_not_false, one_of}
use Rattle.view.proofs.Sets.{has_number, has-minus}
use Rattle.view.proofs.Table.{below}

-- ---- the least process
first_named : (n k v u : ℕ) → k ≤ u → u < k + n → has v u ≡ true → has v (first_from n k v) ≡ true
unfolding first_from
first_named zero k v u low high named = absurd (omega arith)
first_named (suc n) k v u low high named =
    by_pick (λ (j : ℕ). has v j ≡ true) (has v k) _ _
    (λ e. e)
    (λ e.
    by_number u k
    (λ same. true_is_not_false (sym named ∙ subst (λ (j : ℕ). has v j ≡ false) (sym same) e))
    (λ other. first_named n (suc k) v u (omega arith) (omega arith) named))

-- a view that names a process names its least
pub least_named : (v u : ℕ) → has v u ≡ true → has v (least_of v).0 ≡ true
unfolding least_of
least_named v u named = grind (arith, has_number, first_named)

-- ---- a part of a view, by its processes
abbrev bit : ℕ → ℕ → ℕ
bit v k = v / 2 ^ k % 2

bit_next : (v k : ℕ) → bit (v / 2) k ≡ bit v (suc k)
bit_next v k = grind (arith, div-div-eq-div-mul)

part_by_bits : (k a b : ℕ) → a < 2 ^ k → ((j : ℕ) → j < k → bit a j ≡ 1 → bit b j ≡ 1) → bit_and a b ≡ a
part_by_bits zero a b small h = grind arith
part_by_bits (suc k) a b small h =
    let half : a / 2 < 2 ^ k = omega (arith, pow-suc 2 k) in
    let above = part_by_bits k (a / 2) (b / 2) half (λ j l e. bit_next b j ∙ h (suc j) (omega arith) (sym (bit_next a j) ∙ e)) in
    let last : min (a % 2) (b % 2) ≡ a % 2 = min-eq_left (by_number (a % 2) 1 (λ e. omega (arith, lowest e)) (λ n. omega arith)) in
    and_step a b ∙ omega (arith, above, last)
  where
    lowest : a % 2 ≡ 1 → b % 2 ≡ 1
    lowest e = omega (arith, h 0 (omega arith) (omega arith))

set_bit : (v j : ℕ) → j < 8 → bit v j ≡ 1 → has v (suc j) ≡ true
unfolding has
set_bit v j l e = grind arith

bit_set : (v j : ℕ) → has v (suc j) ≡ true → bit v j ≡ 1
unfolding has
bit_set v j e = grind arith

-- of a view that is one byte
pub part_by_processes : (a b : ℕ) → a < 256 → ((u : ℕ) → has a u ≡ true → has b u ≡ true) → subset a b ≡ true
part_by_processes a b small h = eq-eqb (bit_and a b) a (part_by_bits 8 a b small (λ j l e. bit_set b j (h (suc j) (set_bit a j l e))))

-- what is no part of a view: the least of its processes that the view lacks
left_over : (a b u : ℕ) → has (minus a b) (least_of (minus a b)).0 ≡ false → has a u ≡ true → has b u ≡ true
left_over a b u none named = grind (arith, has-minus a b u, least_named (minus a b) u)

pub no_part : (a b : ℕ) → a < 256 → subset a b ≡ false → has (minus a b) (least_of (minus a b)).0 ≡ true
no_part a b small e =
    by_test (has (minus a b) (least_of (minus a b)).0)
    (λ z. z)
    (λ none. true_is_not_false (sym (part_by_processes a b small (λ u. left_over a b u none)) ∙ e))

pub small_minus : (a b : ℕ) → a < 256 → minus a b < 256
unfolding minus
small_minus a b small = xor_of_8 a (bit_and a b) small (omega (arith, and_le_l a b))

-- ---- the view of all
pub everyone_least : (n : ℕ) → is_one_of 8 n ≡ true → (least_of (everyone n)).0 ≡ 1
unfolding everyone least_of first_from has pick
everyone_least n size =
    let b = one_of 8 n size in
    let back : suc (n - 1) ≡ n = omega arith in
    subst (λ (m : ℕ). (least_of (everyone m)).0 ≡ 1) back (eqb-true _ _ (below 8 (λ m. eqb (least_of (everyone (suc m))).0 1) refl (n - 1) (omega arith)))
