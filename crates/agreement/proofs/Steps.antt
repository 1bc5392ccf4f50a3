-- Each transition, and so each run, keeps what is so of every system that events reach.
use Prim.Native.Nat.{ℕ, ◌≤◌, ◌<◌, ◌+◌}
use mathlib.Core.Path.{◌≡◌, refl, sym, subst}
use mathlib.Core.Bool.{true}
use mathlib.Core.List.{List, [], ◌∷◌, ◌++◌, append-nil}
use native.Mathlib.Omega.{arith}
use borrow.Author.Tests.{lt-ltb, le-ltb}
use Rattle.std.specs.Prelude.{None, Some}
use Rattle.view.specs.declared.ProcessId.{ProcessId}
use Rattle.view.specs.declared.GroupIndex.{GroupIndex}
use Rattle.view.specs.Logic.{pick}
use Rattle.view.specs.View.{has, least_of}
use Rattle.view.proofs.Sets.{has_none, not_empty, has-with, has_only, subset-has}
use Rattle.channel.specs.declared.Message.{Message}
use Rattle.system.specs.declared.Variables.{Variables}
use Rattle.system.specs.declared.System.{System}
use Rattle.system.specs.Process.{Pending, proposal_at}
use Rattle.system.specs.System.{variables_at}
use Rattle.plan.specs.declared.Action.{Action}
use Rattle.plan.specs.declared.Action.TheVariants.{Report, Receive, Respond, Crash}
use Rattle.plan.specs.Fields.{with_next}
use Rattle.plan.specs.Plan.{assigning, recording}
use Rattle.step.proofs.Cases.{Taken, afterwards, Marking, present, stale, Transition, proposes, follows, records, reproposes, ignores, marks, commits, enters, accepts, declines, crashes}
use Rattle.step.proofs.Effects.{all_left, taken_left}
use Rattle.step.proofs.Frames.{Shape}
use Rattle.events.specs.Event.{Event, ran, moves_in, grown}
use Rattle.events.proofs.Runs.{any_run}
use Rattle.agreement.specs.Accepted.{Acceptance, accepted, accepted_from, accepted_by, accepted_then}
use Rattle.agreement.proofs.Acceptances.{still, newest, last_or_before}
use Rattle.agreement.proofs.Invariant.{Proposed, Answered, Honest, Recorded, Own, Reached, Later, later_equal, later_risen, answered_later}
use Rattle.agreement.proofs.Changes.{Accepting, accepting_none, HonestChange, recording_honest, since_same, since_then, at_actor, later_all, After, effect_after, quiet_after}

pub accepts_this : (p : ℕ) (x : Variables) (y : Pending) (v : ℕ) (i : GroupIndex) → y ≡ Some (proposal_at v i) → x.next.0 ≤ i.0
    → accepted_from p x y ≡ record { process = p; view = v; index = i.0 } ∷ []
unfolding accepted_from pick
accepts_this p x y v i e free = rw (e, le-ltb i.0 x.next.0 free)

pub accepts_none : (p : ℕ) (x : Variables) (y : Pending) (v : ℕ) (i : GroupIndex) → y ≡ Some (proposal_at v i) → i.0 < x.next.0 → accepted_from p x y ≡ []
unfolding accepted_from pick
accepts_none p x y v i e late = rw (e, lt-ltb i.0 x.next.0 late)

-- ---- the acting process accepts a proposal that it has recorded
module _ {s : System} {acc : List Acceptance} (r : Reached s acc) (p v i : ℕ) (own : has v p ≡ true) (free : (variables_at s p).next.0 ≤ i) where
  abbrev this : Acceptance
  this = record { process = p; view = v; index = i }

  accepting_this : Accepting p (i + 1) acc (acc ++ (this ∷ []))
  accepting_this = grind (arith, still, last_or_before)

  accepting_honest : (q : ProcessId) → HonestChange s acc (acc ++ (this ∷ [])) p (recording (with_next (variables_at s p) (i + 1)) q None)
  accepting_honest q = grind (arith, accepting_this)

  -- so the Acc to a process whose variables are x is honest, if the proposal was
  answered_this : {x : Variables} → Proposed x v i → Answered (acc ++ (this ∷ [])) p x i
  answered_this {x} proposed = grind (arith, newest)

-- ---- what each transition may rely on
module _ {s : System} {acc : List Acceptance} (r : Reached s acc) where
  -- the message taken was honest
  pub honest_first : {q p : ℕ} {m : Message} {left : ℕ → ℕ → List Message} → Taken s q p m left → Honest acc (variables_at s) q p m
  honest_first {q} {p} k = grind arith

  -- whoever is marked once an Acc of q is taken has accepted v* at PropOut
  marked_accepted : (p : ℕ) {q i acks : ℕ} → 1 ≤ q → q ≤ 8 → Answered acc q (variables_at s p) i → Marking (variables_at s p) q i acks → (u : ℕ)
      → ((variables_at s p).proposal ≡ 0 → ⊥)
      → has acks u ≡ true
      → accepted acc u (variables_at s p).proposal (variables_at s p).propout.0 ≡ true
  marked_accepted p {q} l h answered (present e a) u some named = grind (arith, has-with)
  marked_accepted p l h answered (stale e a) u some named = (r.own p).marks u some (rw a at named)

  -- a change of the variables, in which nothing is accepted
  assigned_honest : (p : ℕ) {y : Variables} → y.next ≡ (variables_at s p).next → Later (variables_at s p) y → Own acc p y → HonestChange s acc acc p (assigning y)
  assigned_honest p e later own = grind arith

  -- a record made or cleared, in which nothing is accepted
  recorded_honest : (p : ℕ) (q : ProcessId) (d : Pending) → Recorded (variables_at s) q.0 d → HonestChange s acc acc p (recording (variables_at s p) q d)
  recorded_honest p q d recorded = recording_honest q d (accepting_none r p) (later_equal _ _ refl refl) (r.own p) recorded

-- the marks are cleared
unmarked : {acc : List Acceptance} {p : ℕ} {y : Variables} → y.acks ≡ 0 → ((y.proposal ≡ 0 → ⊥) → (least_of y.view).0 ≡ p → y.proposal ≡ y.view) → Own acc p y
unmarked e leads = grind (arith, has_none)

-- ---- each transition
module _ {s t : System} {acc : List Acceptance} (r : Reached s acc) where
  unaccepting : After s t acc → After s t (acc ++ [])
  unaccepting a = rw append-nil a

  pub transition_after : (o : Action) → Transition s t o → After s t (acc ++ accepted_by s o)
  unfolding afterwards
  transition_after (Report p v) (proposes k) =
      let i = (variables_at s p.0).propout.0 + 1 in
      unaccepting
      (effect_after r (all_left s) k.effect
      (assigned_honest r p.0 refl (later_risen _ _ (omega arith)) (unmarked refl (λ some least. refl)))
      (λ b named. at_actor k.effect (λ y. Proposed y v i) (record { bound = omega arith; same = λ e some. refl })))
  transition_after (Report p v) (follows k) =
      unaccepting
      (quiet_after r (all_left s) k.effect
      (assigned_honest r p.0 refl (later_equal _ _ refl refl) (record { marks = (r.own p.0).marks; leads = λ some least. absurd (k.other least) })))
  transition_after (Receive q p) (records k) =
      unaccepting (quiet_after r (taken_left k.taken) k.effect (recorded_honest r p.0 q (Some (proposal_at k.view k.index)) (honest_first r k.taken)))
  transition_after (Receive q p) (reproposes k) =
      unaccepting
      (effect_after r (taken_left k.taken) k.effect
      (assigned_honest r p.0 refl (later_risen _ _ (omega (arith, k.present, k.rises))) (unmarked refl (r.own p.0).leads))
      (λ b named.
      at_actor k.effect (λ y. Proposed y (variables_at s p.0).view k.new.0)
      (record { bound = omega arith; same = λ e some. sym ((r.own p.0).leads some k.least) })))
  transition_after (Receive q p) (ignores k) =
      unaccepting (quiet_after r (taken_left k.taken) k.effect (assigned_honest r p.0 refl (later_equal _ _ refl refl) (r.own p.0)))
  transition_after (Receive q p) (marks k) =
      unaccepting
      (quiet_after r (taken_left k.taken) k.effect
      (assigned_honest r p.0 refl (later_equal _ _ refl refl)
      (record { marks = marked_accepted r p.0 k.partner.low k.partner.eight (honest_first r k.taken) k.marking; leads = (r.own p.0).leads })))
  transition_after (Receive q p) (commits k) =
      unaccepting
      (effect_after r (taken_left k.taken) k.effect
      (assigned_honest r p.0 refl (later_equal _ _ refl refl) (unmarked refl (r.own p.0).leads))
      (λ b named u member.
      marked_accepted r p.0 k.partner.low k.partner.eight (honest_first r k.taken) k.marking u
      (not_empty _ _ k.proposed)
      (subset-has (variables_at s p.0).proposal k.acks u k.complete member)))
  transition_after (Receive q p) (enters k) =
      unaccepting
      (quiet_after r (taken_left k.taken) k.effect
      (record {
        accepting = accepting_none r p.0;
        later = later_equal _ _ refl refl;
        own = r.own p.0;
        recorded = tt;
        past = λ l. k.sound.low;
        entered = λ l. record { own = k.sound.receiver; agreed = honest_first r k.taken };
      }))
  transition_after (Respond p q) (accepts k) =
      let proposed = subst (Recorded (variables_at s) q.0) k.recorded (r.recorded p.0 q.0) in
      let change = accepting_honest r p.0 k.view k.index.0 k.sound.receiver k.free q in
      rw (accepts_this p.0 (variables_at s p.0) _ k.view k.index k.recorded k.free)
      (effect_after r (all_left s) k.effect change
      (λ b named.
      answered_later (record { still = λ u v i a. a }) (later_all k.effect r (all_left s) change b)
      (answered_this r p.0 k.view k.index.0 k.sound.receiver k.free
      (subst (λ (j : ℕ). Proposed (variables_at s j) k.view k.index.0) (sym (has_only q.0 b k.partner.low k.partner.eight named)) proposed))))
  transition_after (Respond p q) (declines k) =
      rw (accepts_none p.0 (variables_at s p.0) _ k.view k.index k.recorded k.late)
      (unaccepting (effect_after r (all_left s) k.effect (recorded_honest r p.0 q None tt) (λ b named. tt)))
  transition_after (Crash p) (crashes k) =
      unaccepting (quiet_after r (all_left s) k.effect (assigned_honest r p.0 refl (later_equal _ _ refl refl) (r.own p.0)))

-- ---- a run
pub run_after : (s : System) (acc : List Acceptance) (es : List Event) → Reached s acc → After s (ran s es) (grown accepted_then acc s (moves_in s es))
unfolding accepted_then
run_after s acc es r =
    any_run accepted_then (After s) (λ u t old o valid then k a. onward a (transition_after a.reached o.action k.change))
    s acc es r.shape (record { reached = r; since = since_same s })
  where
    onward : {u t : System} {old new : List Acceptance} → After s u old → After u t new → After s t new
    onward a b = record { reached = b.reached; since = since_then a.since b.since }

-- what was accepted before it stays accepted
pub still_in : (s : System) (acc : List Acceptance) (es : List Event) → Shape s → (u v i : ℕ) → accepted acc u v i ≡ true
    → accepted (grown accepted_then acc s (moves_in s es)) u v i ≡ true
unfolding accepted_then
still_in s acc es shape u v i =
    any_run accepted_then (λ t old. accepted old u v i ≡ true) (λ x t old o valid then k a. still old (accepted_by x o.action) u v i a) s acc es shape
