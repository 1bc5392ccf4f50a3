-- What is in a list of moves, or of runs; and lists no two of whose elements are alike.
use Prim.Native.Nat.{ℕ, zero, suc, ◌≤◌}
use mathlib.Core.Path.{◌≡◌, refl, sym, ◌∙◌, ap}
use mathlib.Core.Bool.{Bool, true, ◌&&◌, not}
use mathlib.Core.List.Memᴰ
use mathlib.Core.List.{List, [], ◌∷◌, ◌++◌, map, Memᴰ}
use mathlib.Core.Logic.{⊎_elim}
use native.Mathlib.Omega.{arith}
use borrow.Author.Tests.{eq-eqb}
use lib.Dec.{eqb}
use Rattle.view.specs.Logic.{each_up_to}
use Rattle.view.proofs.Laws.{by_number, and_left, and_right, true_is_not_false}
use Rattle.orders.specs.Orders.{Choice, Run, begun_with}
use Rattle.exhaustive.specs.Exhaustive.{AllDiffer}

-- ---- what stands in a list that grows number by number: one of them puts it there, and the others leave it
pub each_puts : {A : Type 0} (P : A → Type 0) (n k : ℕ) (f : ℕ → A → A) → 1 ≤ k → k ≤ n → ((a : A) → P (f k a)) → ((j : ℕ) (a : A) → P a → P (f j a))
    → (a : A) → P (each_up_to n f a)
unfolding each_up_to
each_puts P zero k f low high here kept a = absurd (omega arith)
each_puts P (suc n) k f low high here kept a =
    by_number k (suc n)
    (λ e. rw e at (here (each_up_to n f a)))
    (λ other. kept (suc n) (each_up_to n f a) (each_puts P n k f low (omega (arith, other)) here kept a))

-- the last of a list
pub at_end : {A : Type 0} (l : List A) (a : A) → Memᴰ a (l ++ (a ∷ []))
at_end l a = Memᴰ.append_right l (Memᴰ.head refl)

-- a test that each of a list passes
unfoldable pub all_pass : {A : Type 0} → (A → Bool) → List A → Bool
all_pass f [] = true
all_pass f (a ∷ l) = f a && all_pass f l

pub passes : {A : Type 0} (f : A → Bool) {a : A} (l : List A) → all_pass f l ≡ true → Memᴰ a l → f a ≡ true
unfolding all_pass
passes f [] e m = absurd (Memᴰ.not-nil m)
passes f {a} (x ∷ l) e m =
    ⊎_elim (λ (same : a ≡ x). ap f same ∙ and_left (f x) (all_pass f l) e) (λ (k : Memᴰ a l). passes f l (and_right (f x) (all_pass f l) e) k) (Memᴰ.cases_cons m)

-- ---- numbers that tell the elements of a list apart
unfoldable pub none_is : {A : Type 0} → (A → ℕ) → ℕ → List A → Bool
none_is code k [] = true
none_is code k (a ∷ l) = not (eqb k (code a)) && none_is code k l

unfoldable pub told_apart : {A : Type 0} → (A → ℕ) → List A → Bool
told_apart code [] = true
told_apart code (a ∷ l) = none_is code (code a) l && told_apart code l

pub none_has_code : {A : Type 0} (code : A → ℕ) (k : ℕ) {a : A} (l : List A) → none_is code k l ≡ true → Memᴰ a l → k ≡ code a → ⊥
unfolding none_is
none_has_code code k [] e m is = absurd (Memᴰ.not-nil m)
none_has_code code k {a} (x ∷ l) e m is =
    ⊎_elim
    (λ (same : a ≡ x). true_is_not_false (sym (and_left (not (eqb k (code x))) (none_is code k l) e) ∙ ap not (eq-eqb k (code x) (is ∙ ap code same))))
    (λ (n : Memᴰ a l). none_has_code code k l (and_right (not (eqb k (code x))) (none_is code k l) e) n is)
    (Memᴰ.cases_cons m)

-- ---- runs no two of which make the same choices
pub differ_append : (a b : List Run) → AllDiffer a → AllDiffer b
    → ((r q : Run) → Memᴰ r a → Memᴰ q b → r.choices ≡ q.choices → ⊥)
    → AllDiffer (a ++ b)
unfolding AllDiffer
differ_append [] b da db apart = db
differ_append (r ∷ a) b da db apart = (
  λ q m same.
      ⊎_elim
      (λ (left : Memᴰ q a). da.0 q left same)
      (λ (right : Memᴰ q b). apart r q (Memᴰ.head refl) right same)
      (Memᴰ.append_cases a m),
  differ_append a b da.1 db (λ r' q m k. apart r' q (Memᴰ.tail m) k),
)

pub differ_begun : (c : Choice) (a : List Run) → AllDiffer a → AllDiffer (map (begun_with c) a)
unfolding AllDiffer
differ_begun c [] d = tt
differ_begun c (r ∷ a) d = (
  λ q m same. let f = Memᴰ.of_map (begun_with c) a m in d.0 f.0 f.1 (tail_same r f.0 (same ∙ ap (λ (x : Run). x.choices) (sym f.2))),
  differ_begun c a d.1,
)
  where
    tail_same : (r q : Run) → c ∷ r.choices ≡ c ∷ q.choices → r.choices ≡ q.choices
    tail_same r q e = cc
