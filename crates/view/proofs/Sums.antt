-- Laws of sums over the numbers 1 to n.
use Prim.Native.Nat.{ℕ, zero, suc, ◌+◌, ◌*◌, ◌≤◌, ◌<◌}
use mathlib.Core.Path.{◌≡◌, refl, sym, subst}
use native.Mathlib.Omega.{arith}
use Rattle.view.specs.Logic.{sum_up_to}
use Rattle.view.proofs.Laws.{by_number}

pub sum_falls : (n : ℕ) (f g : ℕ → ℕ) → ((k : ℕ) → f k ≤ g k) → sum_up_to n f ≤ sum_up_to n g
unfolding sum_up_to
sum_falls zero f g h = omega arith
sum_falls (suc n) f g h = omega (arith, sum_falls n f g h, h (suc n))

-- the sum falls by d if one of them does, and none rises
pub sum_falls_at : (n : ℕ) (f g : ℕ → ℕ) → ((k : ℕ) → f k ≤ g k) → (j d : ℕ) → 1 ≤ j → j ≤ n → f j + d ≤ g j → sum_up_to n f + d ≤ sum_up_to n g
unfolding sum_up_to
sum_falls_at zero f g h j d low high one = absurd (omega arith)
sum_falls_at (suc n) f g h j d low high one =
    by_number j (suc n)
    (λ e. omega (arith, sum_falls n f g h, subst (λ (k : ℕ). f k + d ≤ g k) e one))
    (λ other. omega (arith, sum_falls_at n f g h j d low (omega arith) one, h (suc n)))

pub sum_at_most : (n : ℕ) (f : ℕ → ℕ) (c : ℕ) → ((k : ℕ) → 1 ≤ k → k ≤ n → f k ≤ c) → sum_up_to n f ≤ n * c
unfolding sum_up_to
sum_at_most zero f c h = omega arith
sum_at_most (suc n) f c h = omega (arith, sum_at_most n f c (λ k l u. h k l (omega arith)), h (suc n) (omega arith) (omega arith))

pub sum_same : (n : ℕ) (f g : ℕ → ℕ) → ((k : ℕ) → 1 ≤ k → k ≤ n → f k ≡ g k) → sum_up_to n f ≡ sum_up_to n g
unfolding sum_up_to
sum_same zero f g h = refl
sum_same (suc n) f g h = omega (arith, sum_same n f g (λ k l u. h k l (omega arith)), h (suc n) (omega arith) (omega arith))

-- one of them changes
pub sum-changed : (n : ℕ) (f g : ℕ → ℕ) (j : ℕ) → 1 ≤ j → j ≤ n → ((k : ℕ) → (k ≡ j → ⊥) → f k ≡ g k) → sum_up_to n f + g j ≡ sum_up_to n g + f j
unfolding sum_up_to
sum-changed zero f g j low high h = absurd (omega arith)
sum-changed (suc n) f g j low high h =
    by_number j (suc n)
    (λ e. subst (λ (i : ℕ). sum_up_to n f + f (suc n) + g i ≡ sum_up_to n g + g (suc n) + f i) (sym e)
    (omega (arith, sum_same n f g (λ k l u. h k (λ same. absurd (omega arith))))))
    (λ other. omega (arith, sum-changed n f g j low (omega arith) h, h (suc n) (λ same. other (sym same))))

pub sum-plus : (n : ℕ) (f g : ℕ → ℕ) → sum_up_to n (λ k. f k + g k) ≡ sum_up_to n f + sum_up_to n g
unfolding sum_up_to
sum-plus zero f g = refl
sum-plus (suc n) f g = omega (arith, sum-plus n f g)

-- past n there is nothing
pub sum_past : (m n : ℕ) (f : ℕ → ℕ) → n ≤ m → ((k : ℕ) → n < k → f k ≡ 0) → sum_up_to m f ≡ sum_up_to n f
unfolding sum_up_to
sum_past zero n f h none = let e : zero ≡ n = omega arith in subst (λ (k : ℕ). sum_up_to zero f ≡ sum_up_to k f) e refl
sum_past (suc m) n f h none =
    by_number n (suc m)
    (λ e. subst (λ (k : ℕ). sum_up_to (suc m) f ≡ sum_up_to k f) (sym e) refl)
    (λ other. omega (arith, sum_past m n f (omega arith) none, none (suc m) (omega arith)))
