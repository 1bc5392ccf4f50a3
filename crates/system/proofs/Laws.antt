-- Laws of which channel runs where.
use Prim.Native.Nat.{ℕ, ◌+◌, ◌-◌, ◌*◌, ◌≤◌, ◌<◌}
use mathlib.Core.Path.{◌≡◌, refl, ap}
use mathlib.Core.Bool.{Bool, true, false, ◌&&◌, and-false}
use native.Mathlib.Omega.{arith}
use Rattle.std.specs.Prelude.{None, Some}
use Rattle.view.specs.Logic.{pick, is_one_of, place_of}
use Rattle.view.proofs.Laws.{and_intro, is_one_of_lem, placed}
use Rattle.system.specs.System.{channel_number}

-- ---- the number of a channel
pub number_in : (q p : ℕ) → (is_one_of 8 q && is_one_of 8 p) ≡ true → channel_number q p ≡ 8 * (q - 1) + p
unfolding channel_number pick
number_in q p e = rw e

pub number_out : (q p : ℕ) → (is_one_of 8 q && is_one_of 8 p) ≡ false → channel_number q p ≡ 0
unfolding channel_number pick
number_out q p e = rw e

-- a channel that there is runs between two of the processes 1 to 8
pub number_found : (q p : ℕ) → 1 ≤ channel_number q p → (is_one_of 8 q && is_one_of 8 p) ≡ true
number_found q p l = go (is_one_of 8 q && is_one_of 8 p) refl
  where
    go : (b : Bool) → (is_one_of 8 q && is_one_of 8 p) ≡ b → b ≡ true
    go true e = refl
    go false e = absurd (omega (arith, number_out q p e))

pub number_next : (i j : ℕ) → i < 8 → j < 8 → channel_number (i + 1) (j + 1) ≡ 8 * i + j + 1
number_next i j hi hj =
    let e = number_in (i + 1) (j + 1) (and_intro (is_one_of_lem 8 (i + 1) (omega arith) (omega arith)) (is_one_of_lem 8 (j + 1) (omega arith) (omega arith))) in
    omega (arith, e)

-- two channels of one number that there is run between the same two processes
pub same_ends : (q p a b : ℕ) → 1 ≤ channel_number q p → channel_number a b ≡ channel_number q p → (a ≡ q) × (b ≡ p)
same_ends q p a b some e = grind (arith, number_found, number_in)

-- ---- where the code looks for a channel among the sixty-four
no_channel : (q p : ℕ) → (is_one_of 8 q && is_one_of 8 p) ≡ false → place_of 64 (channel_number q p) ≡ None
unfolding place_of pick
no_channel q p e = rw (number_out q p e)

module _ (q p : ℕ) where
  pub no_sender : place_of 8 q ≡ None → place_of 64 (channel_number q p) ≡ None
  no_sender f = no_channel q p (rw (rw f at (placed 8 q)))

  pub no_receiver : place_of 8 p ≡ None → place_of 64 (channel_number q p) ≡ None
  no_receiver t = no_channel q p (rw (rw t at (placed 8 p)) (and-false _))

  pub sender_and_receiver : (i j : ℕ) → place_of 8 q ≡ Some i → place_of 8 p ≡ Some j → place_of 64 (channel_number q p) ≡ Some (8 * i + j)
  unfolding place_of pick
  sender_and_receiver i j f t =
      let from = rw f at (placed 8 q) in
      let to = rw t at (placed 8 p) in
      rw (from.1, to.1, number_next i j from.0 to.0, is_one_of_lem 64 (8 * i + j + 1) (omega arith) (omega arith)) (ap Some (omega arith))
