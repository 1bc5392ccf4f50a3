-- A rule of numbers, proved of each of them by one test that the checker computes over all of them.
use mathlib.Core.Path.{◌≡◌, subst}
use mathlib.Core.Bool.{Bool, true, ◌&&◌}
use Prim.Native.Nat.{ℕ, zero, suc, ◌<◌}
use native.Mathlib.Nat.{not-suc-le-zero, lt_of_not-le}
use native.Mathlib.Decide.{dec_lt}
use native.Mathlib.Omega.{arith}
use Rattle.view.proofs.Laws.{and_left, and_right}

-- the test passes at each number below m
abbrev pub every_below : ℕ → (ℕ → Bool) → Bool
every_below zero f = true
every_below (suc m) f = every_below m f && f m

pub below : (m : ℕ) (f : ℕ → Bool) → every_below m f ≡ true → (k : ℕ) → k < m → f k ≡ true
below zero f e k h = absurd (not-suc-le-zero h)
below (suc m) f e k h =
    elim (dec_lt k m) [
      | yes p ↦ below m f (and_left (every_below m f) (f m) e) k p
      | no q ↦ subst (λ (n : ℕ). f n ≡ true) (omega (arith, lt_of_not-le q)) (and_right (every_below m f) (f m) e)
    ]
