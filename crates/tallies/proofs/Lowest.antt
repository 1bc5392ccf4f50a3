-- Euclid's rule gives a common divisor that every other one divides; so the share is in lowest terms.
use Prim.Native.Nat.{ℕ, zero, suc, ◌*◌, ◌/◌, ◌%◌, ◌∣◌, ◌≤◌, ◌<◌}
use mathlib.Core.Path.{◌≡◌, refl, sym, ◌∙◌, ap, subst}
use native.Mathlib.Nat.{mod-lt, dvd_refl, dvd-zero, dvd-mod_iff, pos_of_dvd_of_pos, mul-div_cancel', mul-dvd-mul_left, dvd_of_mul-dvd-mul_left, eq-one_of_dvd-one, mul-one, mul_assoc, mul_comm}
use native.Mathlib.Omega.{arith}
use Rattle.tallies.specs.Share.{euclid, gcd, in_lowest_terms, LowestTerms}

-- ---- Euclid's rule
-- the rest is smaller
rest_below : (n a b : ℕ) → suc b ≤ suc n → a % suc b ≤ n
rest_below n a b h = omega (arith, mod-lt a {m = suc b} (omega arith))

-- turns beyond the second number change nothing
enough : (n m a b : ℕ) → b ≤ n → b ≤ m → euclid n a b ≡ euclid m a b
unfolding euclid
enough zero zero a b h k = refl
enough zero (suc m) a zero h k = refl
enough zero (suc m) a (suc b) h k = absurd (omega arith)
enough (suc n) zero a zero h k = refl
enough (suc n) zero a (suc b) h k = absurd (omega arith)
enough (suc n) (suc m) a zero h k = refl
enough (suc n) (suc m) a (suc b) h k = enough n m (suc b) (a % suc b) (rest_below n a b h) (rest_below m a b k)

-- one turn
pub gcd_turn : (a b : ℕ) → (b ≡ 0 → ⊥) → gcd b (a % b) ≡ gcd a b
unfolding gcd euclid
gcd_turn a zero h = absurd (h refl)
gcd_turn a (suc b) h = enough (a % suc b) b (suc b) (a % suc b) (omega arith) (rest_below b a b (omega arith))

pub gcd-done : (a : ℕ) → gcd a 0 ≡ a
unfolding gcd euclid
gcd-done a = refl

-- ---- it is the greatest common divisor
divides : (n a b : ℕ) → b ≤ n → (euclid n a b ∣ a) × (euclid n a b ∣ b)
unfolding euclid
divides zero a zero h = (dvd_refl a, dvd-zero a)
divides zero a (suc b) h = absurd (omega arith)
divides (suc n) a zero h = (dvd_refl a, dvd-zero a)
divides (suc n) a (suc b) h =
    let r : (euclid n (suc b) (a % suc b) ∣ suc b) × (euclid n (suc b) (a % suc b) ∣ a % suc b) = divides n (suc b) (a % suc b) (rest_below n a b h) in
    ((dvd-mod_iff (euclid n (suc b) (a % suc b)) {m = a} {n = suc b} r.0).0 r.1, r.0)

divided : (n a b d : ℕ) → b ≤ n → d ∣ a → d ∣ b → d ∣ euclid n a b
unfolding euclid
divided zero a b d h x y = x
divided (suc n) a zero d h x y = x
divided (suc n) a (suc b) d h x y = divided n (suc b) (a % suc b) d (rest_below n a b h) y ((dvd-mod_iff d {m = a} {n = suc b} y).1 x)

pub gcd_divides : (a b : ℕ) → (gcd a b ∣ a) × (gcd a b ∣ b)
unfolding gcd
gcd_divides a b = divides b a b (omega arith)

pub gcd-greatest : (a b d : ℕ) → d ∣ a → d ∣ b → d ∣ gcd a b
unfolding gcd
gcd-greatest a b d x y = divided b a b d (omega arith) x y

pub gcd_positive : (a b : ℕ) → 0 < b → 0 < gcd a b
gcd_positive a b h = pos_of_dvd_of_pos (gcd_divides a b).1 h

-- ---- the share
module _ (g c p : ℕ) (pos : 0 < g) (by-c : g ∣ c) (by-p : g ∣ p) where
  -- both numbers divided by g are in the same ratio
  same_ratio : (c / g) * p ≡ c * (p / g)
  same_ratio = ap (λ (z : ℕ). (c / g) * z) (sym (mul-div_cancel' g by-p)) ∙ sym (mul_assoc (c / g) g (p / g)) ∙ ap (λ (z : ℕ). z * (p / g)) (mul_comm (c / g) g ∙ mul-div_cancel' g by-c)

  -- what divides both of them is 1, since g times it divides g
  coprime : ((d : ℕ) → d ∣ c → d ∣ p → d ∣ g) → (d : ℕ) → d ∣ c / g → d ∣ p / g → d ≡ 1
  coprime greatest d x y =
      let of_c : g * d ∣ c = subst (λ (z : ℕ). g * d ∣ z) (mul-div_cancel' g by-c) (mul-dvd-mul_left d g x) in
      let of-p : g * d ∣ p = subst (λ (z : ℕ). g * d ∣ z) (mul-div_cancel' g by-p) (mul-dvd-mul_left d g y) in
      eq-one_of_dvd-one (dvd_of_mul-dvd-mul_left {k = g} d {n = 1} pos (subst (λ (z : ℕ). g * d ∣ z) (sym (mul-one g)) (greatest (g * d) of_c of-p)))

pub lowest : (c p : ℕ) → LowestTerms c p (in_lowest_terms c p)
unfolding in_lowest_terms
lowest c zero = record { same = λ h. absurd (omega arith); lowest = λ d x y. eq-one_of_dvd-one y; none = λ h. refl }
lowest c (suc p) =
    let pos : 0 < gcd c (suc p) = gcd_positive c (suc p) (omega arith) in
    record {
      same = λ h. same_ratio (gcd c (suc p)) c (suc p) pos (gcd_divides c (suc p)).0 (gcd_divides c (suc p)).1;
      lowest = coprime (gcd c (suc p)) c (suc p) pos (gcd_divides c (suc p)).0 (gcd_divides c (suc p)).1 (gcd-greatest c (suc p));
      none = λ h. absurd (omega arith);
    }

-- ---- the two cases of the definition
pub without_proposals : (c p : ℕ) → p ≡ 0 → record { committed = 0; proposals = 1 } ≡ in_lowest_terms c p
unfolding in_lowest_terms
without_proposals c zero h = refl
without_proposals c (suc p) h = absurd (omega arith)

pub with_proposals : (c p d : ℕ) → (p ≡ 0 → ⊥) → d ≡ gcd c p → record { committed = c / d; proposals = p / d } ≡ in_lowest_terms c p
unfolding in_lowest_terms
with_proposals c zero d h e = absurd (h refl)
with_proposals c (suc p) d h e = rw e refl
