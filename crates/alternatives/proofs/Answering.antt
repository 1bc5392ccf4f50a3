-- An answer: whoever is told is its one addressee, process q.
use Prim.Native.Nat.{ℕ, zero, suc, ◌≤◌}
use mathlib.Core.Path.{◌≡◌, refl, sym, ◌∙◌, ap, subst}
use mathlib.Core.Bool.{Bool, true, false}
use mathlib.Core.List.{List}
use native.Mathlib.Omega.{arith}
use lib.Dec.{ltb}
use Rattle.std.specs.Prelude.{Result, Ok, Err, None}
use Rattle.view.specs.Logic.{pick, all_up_to, each_up_to, is_one_of}
use Rattle.view.specs.View.{has, with, count_of}
use Rattle.view.specs.declared.ProcessId.{ProcessId}
use Rattle.view.specs.declared.GroupIndex.{GroupIndex}
use Rattle.view.proofs.Laws.{true_is_not_false, by_test, by_number, one_of, is_one_of_lem, each_same, each_keeps, all_intro, all_elim}
use Rattle.view.proofs.Sets.{has_number, has_none, has_only, first_has}
use Rattle.channel.specs.declared.Message.{Message}
use Rattle.system.specs.declared.System.{System}
use Rattle.system.specs.declared.Variables.{Variables}
use Rattle.system.specs.declared.refusal.Refusal.{Refusal}
use Rattle.system.specs.declared.refusal.Refusal.TheVariants.{ChannelFull}
use Rattle.system.specs.Process.{with_pending, with_variables}
use Rattle.system.specs.System.{process_at, variables_at, with_process, sent_if_named, broadcasted, takes_if_named, room_for}
use Rattle.plan.specs.declared.Cut.{Cut}
use Rattle.plan.specs.declared.Cut.TheVariants.{Whole, After}
use Rattle.plan.specs.declared.Reach.{Reach}
use Rattle.plan.specs.Fields.{with_next}
use Rattle.plan.specs.Plan.{sending, recording}
use Rattle.plan.specs.Cut.{reach_of}
use Rattle.plan.specs.Scope.{facing}
use Rattle.step.specs.Step.{taken_off, crashed_if}
use Rattle.image.specs.Image.{system_in, Becomes}
use Rattle.effects.proofs.Laws.{becomes_then}
use Rattle.alternatives.specs.Gives.{Gives, carried, with_room}
use Rattle.alternatives.proofs.Alternatives.{reply_done}

-- ---- a loop in which only number q does something
module _ {A : Type 0} (f : ℕ → A → A) (q : ℕ) (idle : (k : ℕ) → (k ≡ q → ⊥) → (a : A) → f k a ≡ a) where
  each_only : (n : ℕ) → 1 ≤ q → q ≤ n → (a : A) → each_up_to n f a ≡ f q a
  unfolding each_up_to
  each_only zero l h a = absurd (omega arith)
  each_only (suc n) l h a =
      by_number (suc n) q
      (λ e.
      ap (f (suc n)) (each_keeps (λ (x : A). x ≡ a) n f (λ k low high x so. idle k (λ z. absurd (omega (arith, e, z, high))) x ∙ so) a refl)
      ∙ ap (λ (k : ℕ). f k a) e)
      (λ other. idle (suc n) other (each_up_to n f a) ∙ each_only n l (omega (arith, h, other)) a)

all_only : (f : ℕ → Bool) (q n : ℕ) → ((k : ℕ) → (k ≡ q → ⊥) → f k ≡ true) → 1 ≤ q → q ≤ n → all_up_to n f ≡ f q
all_only f q n idle l h =
    by_test (f q)
    (λ on. all_intro n f (λ k low high. by_number k q (λ e. ap f e ∙ on) (idle k)) ∙ sym on)
    (λ off. by_test (all_up_to n f) (λ all. true_is_not_false (sym (all_elim n f all q l h) ∙ off)) (λ none. none ∙ sym off))

-- ---- whom an answer reaches
only_with : (q k : ℕ) → has (with 0 q) k ≡ true → k ≡ q
unfolding with pick
only_with q k named =
    by_test (is_one_of 8 q)
    (λ e. has_only q k (one_of 8 q e).0 (one_of 8 q e).1 named)
    (λ e. absurd (has_none k (rw e at named)))

abbrev reached_in : Result Reach Refusal → ℕ
reached_in (Ok r) = r.addressees
reached_in (Err e) = 0

reach_only : (cut : Cut) (q k : ℕ) → has (reached_in (reach_of cut (with 0 q))) k ≡ true → k ≡ q
unfolding reach_of pick with
reach_only Whole q k named = only_with q k named
reach_only (After j) q k named =
    by_test (ltb j (count_of (with 0 q)))
    (λ on. only_with q k (first_has j (with 0 q) k (rw on at named)))
    (λ off. absurd (has_none k (rw off at named)))

room_only : (s : System) (p k : ℕ) (x : Result Reach Refusal) → has (reached_in (with_room s p x)) k ≡ true → has (reached_in x) k ≡ true
unfolding with_room pick
room_only s p k (Err e) named = named
room_only s p k (Ok r) named =
    by_test (room_for s p r.addressees)
    (λ on. rw on at named)
    (λ off. absurd (has_none k (rw off at named)))

module _ (to q : ℕ) (only : (k : ℕ) → has to k ≡ true → k ≡ q) where
  not_other : (k : ℕ) → (k ≡ q → ⊥) → has to k ≡ false
  not_other k other = by_test (has to k) (λ e. absurd (other (only k e))) (λ e. e)

  -- a number of no process is not named
  nobody_named : is_one_of 8 q ≡ false → (k : ℕ) → has to k ≡ false
  nobody_named none k =
      by_test (has to k)
      (λ e.
      let known = has_number to k e in
      let same = only k e in
      true_is_not_false (sym (is_one_of_lem 8 q (omega (arith, known.0, same)) (omega (arith, known.1, same))) ∙ none))
      (λ e. e)

  one_told : (s : System) (p : ℕ) (m : Message) → broadcasted s p to m ≡ sent_if_named p to m q s
  unfolding broadcasted sent_if_named pick
  one_told s p m =
      by_test (is_one_of 8 q)
      (λ e. each_only (sent_if_named p to m) q (λ k other t. rw (not_other k other)) 8 (one_of 8 q e).0 (one_of 8 q e).1 s)
      (λ e. each_same 8 (sent_if_named p to m) s (λ k. rw (nobody_named e k)) ∙ rw (nobody_named e q))

  one_asked : (s : System) (p : ℕ) → room_for s p to ≡ takes_if_named s p to q
  unfolding room_for takes_if_named
  one_asked s p =
      by_test (is_one_of 8 q)
      (λ e. all_only (takes_if_named s p to) q 8 (λ k other. rw (not_other k other)) (one_of 8 q e).0 (one_of 8 q e).1)
      (λ e. all_intro 8 (takes_if_named s p to) (λ k l h. rw (nobody_named e k)) ∙ rw (nobody_named e q))

-- ---- the room of an answer, and its message
abbrev pub then_reached : Reach → Result (Unit {0}) Refusal → Result Reach Refusal
then_reached r (Ok x) = Ok r
then_reached r (Err e) = Err e

room_asked : (s : System) (p q : ℕ) (cut : Cut) (r : Reach) → Ok r ≡ reach_of cut (with 0 q) → takes_if_named s p r.addressees q ≡ room_for s p r.addressees
room_asked s p q cut r reach =
    sym (one_asked r.addressees q (λ k named. reach_only cut q k (subst (λ x. has x k ≡ true) (ap reached_in reach) named)) s p)

pub reply_room : (s : System) (p q : ℕ) (cut : Cut) (to : ℕ) (r : Reach) (room : Bool) → to ≡ with 0 q → Ok r ≡ reach_of cut to
    → room ≡ takes_if_named s p r.addressees q
    → then_reached r (pick room (Ok tt) (Err ChannelFull)) ≡ with_room s p (reach_of cut (with 0 q))
unfolding with_room pick
reply_room s p q cut to r room proposer reach asked =
    let reached : Ok r ≡ reach_of cut (with 0 q) = reach ∙ ap (reach_of cut) proposer in
    let all = asked ∙ room_asked s p q cut r reached in
    rw (← reached, ← all) (by_test room (λ on. rw on) (λ off. rw off))

module _ (s t : System) (p q : ℕ) (cut : Cut) (m : Message) (r : Reach) (reach : Ok r ≡ with_room s p (reach_of cut (with 0 q))) where
  told_all : sent_if_named p r.addressees m q t ≡ broadcasted t p r.addressees m
  told_all =
      sym (one_told r.addressees q
      (λ k named. reach_only cut q k (room_only s p k (reach_of cut (with 0 q)) (subst (λ x. has x k ≡ true) (ap reached_in reach) named))) t p m)

-- from the last change back to the first: at each of them one fact fits
pub answer_done : (b d : List ℕ) (p q : ProcessId) (cut : Cut) (next : GroupIndex) (m : Message)
    → (v : List ℕ) (r : Reach) → Becomes (crashed_if r.stops (system_in v) p.0) v d
    → (w : List ℕ) → Becomes (sent_if_named p.0 r.addressees m q.0 (system_in w)) w v
    → (u : List ℕ) → Becomes (with_process (system_in u) p.0 (with_pending (process_at (system_in u) p.0) q.0 None)) u w
    → (y : Variables) → Becomes (with_process (system_in b) p.0 (with_variables (process_at (system_in b) p.0) y)) b u
    → y ≡ with_next (variables_at (system_in b) p.0) next.0
    → Ok r ≡ with_room (taken_off (system_in b) (facing p q)) p.0 (reach_of cut (with 0 q.0))
    → Gives (carried (system_in b) (facing p q) cut (sending (recording (with_next (variables_at (system_in b) p.0) next.0) q None) (with 0 q.0) m)) b 0 d
answer_done b d p q cut next m v r stops w sends u clears y puts raises reach =
    let told = told_all (taken_off (system_in b) (facing p q)) (system_in w) p.0 q.0 cut m r reach in
    reply_done b d p q cut next m w r
    (becomes_then sends stops (ap (λ (z : System). crashed_if r.stops z p.0) (sends.system ∙ told)))
    u clears y puts raises (with 0 q.0) refl reach
