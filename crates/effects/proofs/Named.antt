-- Laws of a loop over the processes of a view: the first of them and the others; and what a loop over 1 to 8 says of those that are named.
use Prim.Native.Nat.{ℕ, ◌+◌, ◌-◌, ◌<◌}
use mathlib.Core.Path.{◌≡◌, refl, ◌∙◌, ap}
use mathlib.Core.Bool.{Bool, true, ◌&&◌, ◌||◌, not, and_assoc, and-true}
use mathlib.Core.Logic.{⊎_elim}
use mathlib.Core.List.{List, [], ◌∷◌, map}
use native.Mathlib.Nat.{add-zero}
use borrow.Author.Tests.{eqb-true}
use lib.Bits.{bit_and}
use lib.Dec.{eqb}
use Rattle.std.proofs.lemmas.Slice.Eq.{bytes_eq-Decides}
use Rattle.std.specs.Prelude.{fold, filter}
use Rattle.std.specs.List.{list_all, sum}
use Rattle.std.specs.Str.{bytes_eq}
use Rattle.view.specs.Logic.{pick, all_up_to, each_up_to, sum_up_to}
use Rattle.view.specs.View.{has, least_of, first_from}
use Rattle.view.proofs.Laws.{or_cases, by_test}
use Rattle.view.proofs.Table.{below}
use Rattle.channel.specs.declared.Message.{Message}
use Rattle.system.specs.declared.System.{System}
use Rattle.system.specs.System.{process_at, variables_at, with_trust, trusting, sent, sent_if_named, broadcasted}
use Rattle.step.specs.Step.{departed, suspected_if_named, doubted}
use Rattle.effects.specs.Named.{members_of, suspecting}

-- ---- the first member, computed of each byte
pub first_member : (v : ℕ) → v < 256 → (v ≡ 0 → ⊥) → members_of v ≡ (least_of v).0 ∷ members_of (bit_and v (v - 1))
unfolding members_of has least_of first_from pick
first_member v h some =
    ⊎_elim
    (λ none. absurd (some (eqb-true v 0 none)))
    ((bytes_eq-Decides (members_of v) ((least_of v).0 ∷ members_of (bit_and v (v - 1)))).0)
    (or_cases (eqb v 0) (bytes_eq (members_of v) ((least_of v).0 ∷ members_of (bit_and v (v - 1))))
    (below 256 (λ w. eqb w 0 || bytes_eq (members_of w) ((least_of w).0 ∷ members_of (bit_and w (w - 1)))) refl v h))

pub no_member : members_of 0 ≡ []
unfolding members_of has
no_member = refl

-- ---- a loop over the members, and one over 1 to 8
fold_named : {A : Type 0} (test : ℕ → Bool) (f : ℕ → A → A) (ks : List ℕ) (a : A)
    → fold (λ b k. f k b) a (filter test ks) ≡ fold (λ b k. pick (test k) (f k b) b) a ks
unfolding pick
fold_named test f [] a = refl
fold_named test f (k ∷ ks) a = by_test (test k) (λ on. rw on (fold_named test f ks (f k a))) (λ off. rw off (fold_named test f ks a))

pub each_member : {A : Type 0} (v : ℕ) (f : ℕ → A → A) (a : A) → fold (λ b k. f k b) a (members_of v) ≡ each_up_to 8 (λ k b. pick (has v k) (f k b) b) a
unfolding members_of each_up_to
each_member v f a = fold_named (has v) f (1 ∷ 2 ∷ 3 ∷ 4 ∷ 5 ∷ 6 ∷ 7 ∷ 8 ∷ []) a

all_named : (test f : ℕ → Bool) (ks : List ℕ) → list_all f (filter test ks) ≡ list_all (λ k. not (test k) || f k) ks
all_named test f [] = refl
all_named test f (k ∷ ks) = by_test (test k) (λ on. rw on (ap (λ (b : Bool). f k && b) (all_named test f ks))) (λ off. rw off (all_named test f ks))

pub all_members : (v : ℕ) (f : ℕ → Bool) → list_all f (members_of v) ≡ all_up_to 8 (λ k. not (has v k) || f k)
unfolding members_of all_up_to
all_members v f = all_named (has v) f (1 ∷ 2 ∷ 3 ∷ 4 ∷ 5 ∷ 6 ∷ 7 ∷ 8 ∷ []) ∙ simp (and_assoc, and-true)

sums_named : (test : ℕ → Bool) (h : ℕ → ℕ) (ks : List ℕ) (a : ℕ)
    → fold (λ b x. b + x) a (map h (filter test ks)) ≡ fold (λ b x. b + x) a (map (λ k. pick (test k) (h k) 0) ks)
unfolding pick
sums_named test h [] a = refl
sums_named test h (k ∷ ks) a = by_test (test k) (λ on. rw on (sums_named test h ks (a + h k))) (λ off. rw (off, add-zero) (sums_named test h ks a))

pub sum_members : (v : ℕ) (h : ℕ → ℕ) → sum (map h (members_of v)) ≡ sum_up_to 8 (λ k. pick (has v k) (h k) 0)
unfolding members_of sum_up_to
sum_members v h = sums_named (has v) h (1 ∷ 2 ∷ 3 ∷ 4 ∷ 5 ∷ 6 ∷ 7 ∷ 8 ∷ []) 0

-- ---- who is told, and who is suspected
pub all_told : (s : System) (q v : ℕ) (m : Message) → fold (λ t k. sent t q k m) s (members_of v) ≡ broadcasted s q v m
unfolding broadcasted sent_if_named
all_told s q v m = each_member v (λ k t. sent t q k m) s

pub same_variables : (s : System) (p q k : ℕ) → variables_at (suspecting s p q) k ≡ variables_at s k
unfolding suspecting with_trust process_at
same_variables s p q k = refl

all_suspected : (s : System) (p : ℕ) (ks l : List ℕ)
    → fold (λ t k. suspecting t p k) (with_trust s l) ks ≡ with_trust s (fold (λ t k. trusting (departed s p k t) k p true) l ks)
unfolding suspecting with_trust departed process_at
all_suspected s p [] l = refl
all_suspected s p (k ∷ ks) l = all_suspected s p ks (trusting (departed s p k l) k p true)

pub all_doubted : (s : System) (p v : ℕ) → fold (λ t k. suspecting t p k) s (members_of v) ≡ doubted s p v
unfolding doubted suspected_if_named with_trust
all_doubted s p v = all_suspected s p (members_of v) s.trust ∙ ap (with_trust s) (each_member v (λ k l. trusting (departed s p k l) k p true) s.trust)
