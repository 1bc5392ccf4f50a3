-- Sums over the pairs of the numbers 1 to n.
use Prim.Native.Nat.{ℕ, ◌+◌, ◌*◌, ◌≤◌}
use native.Mathlib.Omega.{arith}
use Rattle.view.specs.Logic.{sum_up_to}
use Rattle.view.proofs.Sums.{sum_falls, sum_falls_at, sum_at_most}

unfoldable pub pairs : ℕ → (ℕ → ℕ → ℕ) → ℕ
pairs n f = sum_up_to n (λ a. sum_up_to n (f a))

pub pairs_fall_at : (n : ℕ) (f g : ℕ → ℕ → ℕ) → ((a b : ℕ) → f a b ≤ g a b) → (q p d : ℕ) → 1 ≤ q → q ≤ n → 1 ≤ p → p ≤ n → f q p + d ≤ g q p
    → pairs n f + d ≤ pairs n g
unfolding pairs
pairs_fall_at n f g falls q p d a b c e one =
    sum_falls_at n _ _ (λ k. sum_falls n (f k) (g k) (falls k)) q d a b (sum_falls_at n (f q) (g q) (falls q) p d c e one)

-- each is at most c
pub pairs_at_most : (n : ℕ) (f : ℕ → ℕ → ℕ) (c : ℕ) → ((a b : ℕ) → 1 ≤ a → a ≤ n → f a b ≤ c) → pairs n f ≤ n * (n * c)
unfolding pairs
pairs_at_most n f c h = grind (arith, sum_at_most)
