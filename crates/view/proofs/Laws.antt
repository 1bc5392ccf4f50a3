-- Laws of tests, of loops over 1 to n and of lists numbered from 1, which the proofs of all crates cite.
use Prim.Native.Nat.{ℕ, zero, suc, ◌≤◌, ◌<◌, ◌+◌, ◌-◌}
use mathlib.Core.Path.{◌≡◌, refl, sym, ◌∙◌, ap, subst}
use mathlib.Core.Bool.{Bool, true, false, ◌&&◌, and_assoc}
use mathlib.Core.List.{List, [], ◌∷◌, ◌++◌, map}
use mathlib.Core.Logic.{◌⊎◌, inl, inr, ⊎_elim}
use native.Mathlib.Omega.{arith}
use native.Mathlib.Nat.{le_of_suc-le-suc, not-suc-le-zero, lt_of_not-le}
use native.Mathlib.Numerals.{add-one}
use native.Mathlib.Decide.{dec_le, ℕ_discrete}
use borrow.Author.Tests.{leb-true, le-leb}
use lib.Dec.{leb}
use lib.ListN.{length, get_or, set, replicate, length-set, length-map, get_or-eq_default}
use lib.Seq.{get_or-set_same, get_or-set_other, set-set, set-get_or, set_out}
use Rattle.std.specs.Prelude.{Option, None, Some}
pub use Rattle.std.specs.Cmp.{first_so as and_left, second_so as and_right}
pub use Rattle.std.specs.Cmp.Derive.{both_true as and_intro}
pub use Rattle.std.proofs.lemmas.Bool.{or_left, or_right, or_cases}
use Rattle.std.proofs.lemmas.Bool.{true≢false}
use Rattle.std.proofs.lemmas.List.{get_or_default}
use Rattle.view.specs.Logic.{pick, all_up_to, each_up_to, at, put, is_one_of, place_of}

-- ---- tests
pub true_is_not_false : {A : Type 0} → true ≡ false → A
true_is_not_false e = absurd (true≢false e)

-- by a test, and by whether two numbers are equal
pub by_pick : {A : Type 0} (P : A → Type 0) (t : Bool) (a b : A) → (t ≡ true → P a) → (t ≡ false → P b) → P (pick t a b)
unfolding pick
by_pick P true a b yes-case no-case = yes-case refl
by_pick P false a b yes-case no-case = no-case refl

pub by_test : {C : Type 0} (t : Bool) → (t ≡ true → C) → (t ≡ false → C) → C
by_test true yes-case no-case = yes-case refl
by_test false yes-case no-case = no-case refl

pub by_number : {C : Type 0} (k p : ℕ) → (k ≡ p → C) → ((k ≡ p → ⊥) → C) → C
by_number k p same other = elim (ℕ_discrete k p) [ yes e ↦ same e | no h ↦ other h ]

pub one_of : (n k : ℕ) → is_one_of n k ≡ true → (1 ≤ k) × (k ≤ n)
one_of n k e = (leb-true 1 k (and_left (leb 1 k) (leb k n) e), leb-true k n (and_right (leb 1 k) (leb k n) e))

pub is_one_of_lem : (n k : ℕ) → 1 ≤ k → k ≤ n → is_one_of n k ≡ true
is_one_of_lem n k l u = and_intro (le-leb 1 k l) (le-leb k n u)

-- ---- loops
pub all_more : (i : ℕ) (f : ℕ → Bool) → all_up_to (i + 1) f ≡ (all_up_to i f && f (i + 1))
unfolding all_up_to
all_more i f = simp add-one

pub each_more : {A : Type 0} (i : ℕ) (f : ℕ → A → A) (a : A) → each_up_to (i + 1) f a ≡ f (i + 1) (each_up_to i f a)
unfolding each_up_to
each_more i f a = simp add-one

-- ---- loops `for i in 1..=n`: before turn i the turns up to i - 1 are done
pub before_next : (i : ℕ) → 1 ≤ i → i + 1 - 1 ≡ i - 1 + 1
before_next i h = omega arith

pub each_next : {A : Type 0} (i : ℕ) (f : ℕ → A → A) (a : A) → 1 ≤ i → f i (each_up_to (i - 1) f a) ≡ each_up_to (i + 1 - 1) f a
each_next i f a h =
    let e : i ≡ i - 1 + 1 = omega arith in
    rw (before_next i h) (ap (λ k. f k (each_up_to (i - 1) f a)) e ∙ sym (each_more (i - 1) f a))

pub all_next : (i : ℕ) (f : ℕ → Bool) → 1 ≤ i → (all_up_to (i - 1) f && f i) ≡ all_up_to (i + 1 - 1) f
all_next i f h =
    let e : i ≡ i - 1 + 1 = omega arith in
    rw (before_next i h) (ap (λ k. all_up_to (i - 1) f && f k) e ∙ sym (all_more (i - 1) f))

-- after the last turn all n are done
pub all_done : (i n : ℕ) → i ≤ n + 1 → n < i → i - 1 ≡ n
all_done i n u l = omega arith

-- ok is a test, and those of each number before i
module _ (a ok : Bool) (i n : ℕ) (f : ℕ → Bool) (so_far : ok ≡ (a && all_up_to (i - 1) f)) where
  -- after turn i, which asks t; after turn n; and where i has passed n
  pub tested_turn : (t : Bool) → 1 ≤ i → t ≡ f i → (ok && t) ≡ (a && all_up_to (i + 1 - 1) f)
  tested_turn t h is = rw (so_far, is) (and_assoc a (all_up_to (i - 1) f) (f i) ∙ ap (λ (b : Bool). a && b) (all_next i f h))

  pub tested_last : (t : Bool) → 1 ≤ i → t ≡ f i → i ≤ n → n ≤ i → (ok && t) ≡ (a && all_up_to n f)
  tested_last t h is u l = tested_turn t h is ∙ ap (λ (k : ℕ). a && all_up_to k f) (omega arith)

  pub tested_all : i ≤ n + 1 → n < i → ok ≡ (a && all_up_to n f)
  tested_all u l = so_far ∙ ap (λ (k : ℕ). a && all_up_to k f) (all_done i n u l)

pub each_same : {A : Type 0} (n : ℕ) (f : ℕ → A → A) (a : A) → ((k : ℕ) → f k a ≡ a) → each_up_to n f a ≡ a
unfolding each_up_to
each_same zero f a h = refl
each_same (suc n) f a h = ap (f (suc n)) (each_same n f a h) ∙ h (suc n)

-- a change that each turn goes past, made before all of them or after
pub each_past : {A : Type 0} (g : A → A) (n : ℕ) (f : ℕ → A → A) → ((k : ℕ) (a : A) → f k (g a) ≡ g (f k a)) → (a : A) → each_up_to n f (g a) ≡ g (each_up_to n f a)
unfolding each_up_to
each_past g zero f h a = refl
each_past g (suc n) f h a = ap (f (suc n)) (each_past g n f h a) ∙ h (suc n) (each_up_to n f a)

-- a change that is made for each of 1 to n keeps what each turn keeps
pub each_keeps : {A : Type 0} (K : A → Type 0) (n : ℕ) (f : ℕ → A → A) → ((k : ℕ) → 1 ≤ k → k ≤ n → (a : A) → K a → K (f k a)) → (a : A) → K a → K (each_up_to n f a)
unfolding each_up_to
each_keeps K zero f h a k = k
each_keeps K (suc n) f h a k =
    h (suc n) (omega arith) (omega arith) (each_up_to n f a) (each_keeps K n f (λ j l u. h j l (omega arith)) a k)

-- what is so of each of 1 to n, and back
pub all_intro : (n : ℕ) (f : ℕ → Bool) → ((k : ℕ) → 1 ≤ k → k ≤ n → f k ≡ true) → all_up_to n f ≡ true
unfolding all_up_to
all_intro zero f h = refl
all_intro (suc n) f h = and_intro (all_intro n f (λ k l u. h k l (omega arith))) (h (suc n) (omega arith) (omega arith))

pub all_elim : (n : ℕ) (f : ℕ → Bool) → all_up_to n f ≡ true → (k : ℕ) → 1 ≤ k → k ≤ n → f k ≡ true
unfolding all_up_to
all_elim zero f e k l u = absurd (omega arith)
all_elim (suc n) f e k l u =
    elim (dec_le k n) [
      | yes p ↦ all_elim n f (and_left (all_up_to n f) (f (suc n)) e) k l p
      | no q ↦ subst (λ (m : ℕ). f m ≡ true) (omega (arith, lt_of_not-le q)) (and_right (all_up_to n f) (f (suc n)) e)
    ]

-- a test, and then one of each number up to i
unfoldable pub tested_up_to : Bool → (ℕ → Bool) → ℕ → Bool
tested_up_to a f i = a && all_up_to i f

pub one_more : (a : Bool) (f : ℕ → Bool) (i : ℕ) (ok next m : Bool) → ok ≡ tested_up_to a f i → next ≡ (ok && m) → m ≡ f (i + 1)
    → next ≡ tested_up_to a f (i + 1)
unfolding tested_up_to
one_more a f i ok next m so_far both test = rw (all_more, ← and_assoc, ← so_far, ← test) both

-- ---- lists
-- each element of a list
abbrev pub Each : {A : Type 0} → (A → Type 0) → List A → Type 0
Each P [] = Unit {0}
Each P (x ∷ xs) = P x × Each P xs

pub each_end : {A : Type 0} (P : A → Type 0) (xs : List A) (x : A) → Each P xs → P x → Each P (xs ++ (x ∷ []))
each_end P [] x e h = (h, tt)
each_end P (y ∷ xs) x e h = (e.0, each_end P xs x e.1 h)

pub each_as : {A : Type 0} (P Q : A → Type 0) → ((x : A) → P x → Q x) → (xs : List A) → Each P xs → Each Q xs
each_as P Q f [] e = tt
each_as P Q f (x ∷ xs) e = (f x e.0, each_as P Q f xs e.1)

-- an array has its length, whatever its elements' machine values are
pub long : {A B : Type 0} (f : A → B) (l : List A) (n : ℕ) → length (map f l) ≡ n → length l ≡ n
long f l n e = sym (length-map l f) ∙ e

-- the element at k, counted from 0, is the one numbered k + 1
pub at_next : {A : Type 0} (l : List A) (k : ℕ) (d e : A) → k < length l → get_or l k d ≡ at l (k + 1) e
unfolding at
at_next l k d e h = rw add-one (get_or_default l k d e h)

pub put_next : {A : Type 0} (l : List A) (k : ℕ) (a : A) → set l k a ≡ put l (k + 1) a
unfolding put
put_next l k a = rw add-one

pub length-put : {A : Type 0} (l : List A) (k : ℕ) (a : A) → length (put l k a) ≡ length l
unfolding put
length-put l zero a = refl
length-put l (suc k) a = length-set l k a

pub at_put_same : {A : Type 0} (l : List A) (k : ℕ) (a d : A) → 1 ≤ k → k ≤ length l → at (put l k a) k d ≡ a
unfolding at put
at_put_same l zero a d h u = absurd (not-suc-le-zero h)
at_put_same l (suc k) a d h u = get_or-set_same l k a d u

pub at_put_other : {A : Type 0} (l : List A) (k j : ℕ) (a d : A) → (j ≡ k → ⊥) → at (put l k a) j d ≡ at l j d
unfolding at put
at_put_other l zero j a d h = refl
at_put_other l (suc k) zero a d h = refl
at_put_other l (suc k) (suc j) a d h = get_or-set_other l k j a d (λ e. h (ap suc e))

pub put_at : {A : Type 0} (l : List A) (k : ℕ) (d : A) → put l k (at l k d) ≡ l
unfolding at put
put_at l zero d = refl
put_at l (suc k) d = set-get_or l k d

pub at_replicate : {A : Type 0} (n k : ℕ) (a : A) → at (replicate n a) k a ≡ a
unfolding at
at_replicate n zero a = refl
at_replicate zero (suc k) a = refl
at_replicate (suc n) (suc zero) a = refl
at_replicate (suc n) (suc (suc k)) a = at_replicate n (suc k) a

pub at_past : {A : Type 0} (l : List A) (k : ℕ) (d : A) → length l < k → at l k d ≡ d
unfolding at
at_past l zero d h = refl
at_past l (suc k) d h = get_or-eq_default l d (le_of_suc-le-suc h)

pub put_past : {A : Type 0} (l : List A) (k : ℕ) (a : A) → length l < k → put l k a ≡ l
unfolding put
put_past l zero a h = refl
put_past l (suc k) a h = set_out l k a (le_of_suc-le-suc h)

-- each element of the list with a put in at k
pub each_put : {A : Type 0} (P : ℕ → A → Type 0) (l : List A) (k : ℕ) (a d : A) → (1 ≤ k → k ≤ length l → P k a) → ((j : ℕ) → P j (at l j d))
    → (j : ℕ)
    → P j (at (put l k a) j d)
unfolding at put
each_put P l zero a d new old j = old j
each_put {A} P l (suc k) a d new old j =
    by_number j (suc k)
    (λ e.
    subst (λ (i : ℕ). P i (at (put l (suc k) a) i d)) (sym e)
    (elim (dec_le (suc k) (length l)) [
      | yes h ↦ subst (P (suc k)) (sym (at_put_same l (suc k) a d (omega arith) h)) (new (omega arith) h)
      | no h ↦ subst (λ (m : List A). P (suc k) (at m (suc k) d)) (sym (put_past l (suc k) a (lt_of_not-le h))) (old (suc k))
    ]))
    (λ h. subst (P j) (sym (at_put_other l (suc k) j a d h)) (old j))

-- an element replaced, and replaced again by what is made of it
pub put_again : {A : Type 0} (l : List A) (k : ℕ) (a d : A) (f : A → A) → put (put l k a) k (f (at (put l k a) k d)) ≡ put l k (f a)
unfolding put
put_again l zero a d f = refl
put_again l (suc k) a d f =
    elim (dec_le (suc k) (length l)) [
      | yes high ↦ rw (at_put_same l (suc k) a d (omega arith) high) (set-set l k a (f a))
      | no past ↦ set_out (set l k a) k _ (rw length-set (le_of_suc-le-suc (lt_of_not-le past))) ∙ set_out l k a (le_of_suc-le-suc (lt_of_not-le past)) ∙ sym (set_out l k (f a) (le_of_suc-le-suc (lt_of_not-le past)))
    ]

-- ---- the element numbered k, as the code finds it
abbrev pub Placed : ℕ → ℕ → Option ℕ → Type 0
Placed n k None = is_one_of n k ≡ false
Placed n k (Some j) = (j < n) × (k ≡ j + 1)

pub placed : (n k : ℕ) → Placed n k (place_of n k)
unfolding place_of pick
placed n k = go (is_one_of n k) refl
  where
    go : (t : Bool) → is_one_of n k ≡ t → Placed n k (pick t (Some (k - 1)) None)
    go true e = let h = one_of n k e in (omega arith, omega arith)
    go false e = e

-- there is none
outside : (n k : ℕ) → is_one_of n k ≡ false → (k ≡ 0) ⊎ (n < k)
outside n zero e = inl refl
outside n (suc k) e = go (dec_le (suc k) n)
  where
    go : Dec (suc k ≤ n) → (suc k ≡ 0) ⊎ (n < suc k)
    go (yes p) = true_is_not_false (sym (is_one_of_lem n (suc k) (omega arith) p) ∙ e)
    go (no q) = inr (lt_of_not-le q)

module _ {A : Type 0} (l : List A) (n k : ℕ) (long : length l ≡ n) where
  pub at_placed : (j : ℕ) (d : A) → Placed n k (Some j) → at l k d ≡ get_or l j d
  at_placed j d h = ap (λ (m : ℕ). at l m d) h.1 ∙ sym (at_next l j d d (omega arith))

  pub put_placed : (j : ℕ) (a : A) → Placed n k (Some j) → put l k a ≡ set l j a
  put_placed j a h = ap (λ (m : ℕ). put l m a) h.1 ∙ sym (put_next l j a)

  pub at_missing : (d : A) → Placed n k None → at l k d ≡ d
  unfolding at
  at_missing d h = ⊎_elim (λ e. rw e) (λ u. at_past l k d (omega arith)) (outside n k h)

  pub put_missing : (a : A) → Placed n k None → put l k a ≡ l
  unfolding put
  put_missing a h = ⊎_elim (λ e. rw e) (λ u. put_past l k a (omega arith)) (outside n k h)
