-- A step done, whole or cut, is one of the transitions: the plans, case by case.
use Prim.Native.Nat.{ℕ, ◌+◌, ◌≤◌, ◌<◌}
use mathlib.Core.Path.{◌≡◌, refl, sym, ◌∙◌, subst}
use mathlib.Core.Bool.{Bool, true, false, not, ◌&&◌}
use mathlib.Core.List.{List, [], ◌∷◌}
use mathlib.Core.Logic.{◌⊎◌}
use native.Mathlib.Omega.{arith}
use borrow.Author.Tests.{eqb-true, eqb-false, eq-eqb, ne_eqb, leb-true, not-true}
use lib.Dec.{leb, eqb}
use Rattle.std.specs.Prelude.{None, Some}
use Rattle.std.proofs.lemmas.Bool.Decides.{nat_tests}
use Rattle.view.specs.declared.ProcessId.{ProcessId}
use Rattle.view.specs.declared.GroupIndex.{GroupIndex}
use Rattle.view.specs.Logic.{pick, each_up_to}
use Rattle.view.specs.View.{has, within, subset, with, minus, everyone, least_of}
use Rattle.view.proofs.Laws.{by_pick, true_is_not_false, and_left, and_right, and_intro, Each}
use Rattle.channel.specs.declared.Message.{Message}
use Rattle.channel.specs.declared.Message.TheVariants.{Propose, Retry, Acc, Commit}
use Rattle.channel.specs.Channel.{popped, front_of}
use Rattle.system.specs.declared.System.{System}
use Rattle.system.specs.declared.Variables.{Variables}
use Rattle.system.specs.Outcome.{Outcome, done, refused}
use Rattle.system.specs.Process.{index, pending_at, Pending, proposal_at}
use Rattle.system.specs.System.{process_at, variables_at, channel_at, with_channel, trust_at, may_trust}
use Rattle.sound.specs.Sound.{sound_message, sound_pending, sound_system}
use Rattle.plan.specs.declared.Action.{Action}
use Rattle.plan.specs.declared.Action.TheVariants.{Report, Receive, Respond, Crash}
use Rattle.plan.specs.declared.Step.{Step}
use Rattle.plan.specs.Plan.{assigning, recording, no_message, new_view_plan, report_plan, committing_plan, message_plan, receive_plan, respond_plan, Planned}
use Rattle.plan.specs.Fields.{with_view, with_next, with_acks, proposing}
use Rattle.plan.specs.Cut.{cut_by}
use Rattle.plan.specs.Scope.{scope_of}
use Rattle.step.specs.Step.{plan_of, taken_off, suspected_if_named, carried_out, permitted, attempted, stepped}
use Rattle.step.proofs.Cases.{waiting_at, Known, Acts, SameTrust, Taken, Doubts, Marking, present, stale, Transition, proposes, follows, records, reproposes, ignores, marks, commits, enters, accepts, declines, crashes, outlined, outline, Reaches, tells}
use Rattle.step.proofs.Soundness.{SoundProposal, SoundProcess, Valid, proposal_facts, retry_facts, acc_facts}
use Rattle.step.proofs.Trust.{doubts, brought_back, same_trust}
use Rattle.step.proofs.Carried.{Telling, sound, taken_first, carried, Performed, performed}

-- ---- each plan
-- a plan that is refused was not carried out
never : {C : Type 0} {s t : System} {left : ℕ → ℕ → List Message} {p q reach : ℕ} {a : Planned} → Performed s t left p q a reach → 0 < a.refusal → C
never k h = absurd (omega (arith, k.plain))

module _ (s : System) (valid : Valid s) (t : System) (reach : ℕ) where
  abbrev Case : (ℕ → ℕ → List Message) → ℕ → ℕ → Action → Planned → Type 0
  Case left p q o a = Performed s t left p q a reach → Reaches s t o reach

  own : (p : ℕ) → Known s p → SoundProcess s.n p (process_at s p)
  own p k = (sound s valid).process p k.low k.high

  report-doubts : (p v : ℕ) → Known s p → has v p ≡ true → t.trust ≡ each_up_to 8 (suspected_if_named s p (minus (everyone s.n) v)) s.trust → Doubts s t p v
  report-doubts p v known own-named e = grind (arith, doubts, sound)

  -- a report, as local? says, and what it tells
  module _ {p : ProcessId} {v : ℕ} (acts : Acts s p.0) (inside : within s.n v ≡ true) (named : has v p.0 ≡ true)
      (trusted : (b : ℕ) → has v b ≡ true → has (variables_at s p.0).view b ≡ false → may_trust s p.0 b ≡ true)
      (doubted : Doubts s t p.0 v) where
    proposing_tells : {stops : Bool} → (least_of v).0 ≡ p.0 → (variables_at s p.0).propout.0 < 32
        → Telling s t (waiting_at s) p.0 (assigning (proposing (variables_at s p.0) v ((variables_at s p.0).propout.0 + 1))) stops
        v (Propose v (index ((variables_at s p.0).propout.0 + 1))) reach
        → Reaches s t (Report p v) reach
    unfolding outlined outline
    proposing_tells {stops} least below f =
        tells
        (proposes (record { acts = acts; inside = inside; own = named; trusted = trusted; doubts = doubted; least = least; below = below; stops = stops; effect = f.effect }))
        f.just

    following_tells : ((least_of v).0 ≡ p.0 → ⊥) → Telling s t (waiting_at s) p.0 (assigning (with_view (variables_at s p.0) v)) false 0 no_message reach
        → Reaches s t (Report p v) reach
    unfolding outlined outline
    following_tells other f =
        tells (follows (record { acts = acts; inside = inside; own = named; trusted = trusted; doubts = doubted; other = other; effect = f.effect })) f.just

  report_cases : (p : ProcessId) (v : ℕ) → Case (waiting_at s) p.0 p.0 (Report p v)
      (report_plan s.n p.0 v (variables_at s p.0) (trust_at s p.0))
  unfolding report_plan new_view_plan pick
  report_cases p v = grind (arith, nat_tests, proposing_tells, brought_back, report-doubts, following_tells)

  -- what process p has recorded from process q is sound
  recorded_proposal : (p q : ProcessId) (v : ℕ) (i : GroupIndex) → pending_at (process_at s p.0) q.0 ≡ Some (proposal_at v i) → Known s p.0 → Known s q.0
      → SoundProposal s.n q.0 p.0 v i.0
  unfolding sound_pending
  recorded_proposal p q v i e a b =
      proposal_facts s.n q.0 p.0 v i.0
      (subst (λ (y : Pending). sound_pending s.n q.0 p.0 y ≡ true) e ((own p.0 a).recorded q.0 b.low b.high))

  -- an answer, and what it tells
  module _ {p q : ProcessId} {v : ℕ} {i : GroupIndex} (acts : Acts s p.0) (partner : Known s q.0)
      (recorded : pending_at (process_at s p.0) q.0 ≡ Some (proposal_at v i)) (same : v ≡ (variables_at s p.0).view) (trust : SameTrust s t) where
    sound_there : SoundProposal s.n q.0 p.0 v i.0
    sound_there = recorded_proposal p q v i recorded acts.known partner

    accepting_tells : {stops : Bool} → (variables_at s p.0).next.0 ≤ i.0
        → Telling s t (waiting_at s) p.0 (recording (with_next (variables_at s p.0) (i.0 + 1)) q None) stops (with 0 q.0) (Acc i) reach
        → Reaches s t (Respond p q) reach
    unfolding outlined outline
    accepting_tells {stops} free f =
        tells
        (accepts
        (record { acts = acts; partner = partner; view = v; index = i; recorded = recorded; sound = sound_there; same = same; free = free; stops = stops; trust = trust; effect = f.effect }))
        f.just

    declining_tells : {stops : Bool} → i.0 < (variables_at s p.0).next.0
        → Telling s t (waiting_at s) p.0 (recording (variables_at s p.0) q None) stops (with 0 q.0) (Retry i (variables_at s p.0).next) reach
        → Reaches s t (Respond p q) reach
    unfolding outlined outline
    declining_tells {stops} late f =
        tells
        (declines
        (record { acts = acts; partner = partner; view = v; index = i; recorded = recorded; sound = sound_there; same = same; late = late; stops = stops; trust = trust; effect = f.effect }))
        f.just

  respond_cases : (p q : ProcessId) (y : Pending) → pending_at (process_at s p.0) q.0 ≡ y
      → Case (waiting_at s) p.0 q.0 (Respond p q) (respond_plan q (variables_at s p.0) y)
  unfolding respond_plan pick
  respond_cases p q None e = λ k. never k (omega arith)
  respond_cases p q (Some r) e = grind (arith, nat_tests, accepting_tells, declining_tells, same_trust)

  -- v* is not empty, so that it names its own process
  was_proposed : (p : ℕ) → Known s p → ((variables_at s p).proposal ≡ 0 → ⊥) → has (variables_at s p).proposal p ≡ true
  was_proposed p k some = grind (arith, own)

  module _ (q p : ProcessId) (left : ℕ → ℕ → List Message) where
    -- an Acc, once ack is known
    acc_cases : (i : GroupIndex) (acks : ℕ) → Taken s q.0 p.0 (Acc i) left → 2 ≤ i.0 → Marking (variables_at s p.0) q.0 i.0 acks
        → Case left p.0 q.0 (Receive q p) (committing_plan (with_acks (variables_at s p.0) acks))
    unfolding committing_plan outlined outline
    acc_cases i acks taken past marking =
        let x = variables_at s p.0 in
        let some = not (eqb x.proposal 0) in
        by_pick (Case left p.0 q.0 (Receive q p)) (some && subset x.proposal acks) _ _
        (λ both k.
        tells
        (commits
        (record {
          acts = k.acts;
          partner = k.partner;
          index = i;
          left = left;
          taken = taken;
          past = past;
          acks = acks;
          marking = marking;
          proposed = was_proposed p.0 k.acts.known (eqb-false x.proposal 0 (not-true _ (and_left some (subset x.proposal acks) both)));
          complete = and_right some (subset x.proposal acks) both;
          stops = k.stops;
          trust = same_trust s t p.0 k.trust;
          effect = (k.effect refl).effect;
        }))
        (k.effect refl).just)
        (λ part k.
        tells
        (marks
        (record {
          acts = k.acts;
          partner = k.partner;
          index = i;
          left = left;
          taken = taken;
          past = past;
          acks = acks;
          marking = marking;
          partial = λ h. rw (ne_eqb x.proposal 0 h) at part;
          trust = same_trust s t p.0 k.trust;
          effect = (k.quiet refl refl).effect;
        }))
        (k.quiet refl refl).just)

    message_cases : (m : Message) → Taken s q.0 p.0 m left → sound_message s.n q.0 p.0 m ≡ true
        → Case left p.0 q.0 (Receive q p) (message_plan q p.0 (variables_at s p.0) m)
    unfolding message_plan sound_message outlined outline
    message_cases (Propose v i) taken e =
        λ k. tells
        (records
        (record {
          acts = k.acts;
          partner = k.partner;
          view = v;
          index = i;
          left = left;
          taken = taken;
          sound = proposal_facts s.n q.0 p.0 v i.0 e;
          trust = same_trust s t p.0 k.trust;
          effect = (k.quiet refl refl).effect;
        }))
        (k.quiet refl refl).just
    message_cases (Retry old new) taken e =
        let x = variables_at s p.0 in
        let f = retry_facts s.n q.0 p.0 old new e in
        let same = eqb x.propout.0 old.0 in
        let least = eqb (least_of x.view).0 p.0 in
        let C = Case left p.0 q.0 (Receive q p) in
        by_pick C (same && least) _ _
        (λ both.
        by_pick C (leb new.0 32) _ _
        (λ below k.
        let at_old = eqb-true x.propout.0 old.0 (and_left same least both) in
        tells
        (reproposes
        (record {
          acts = k.acts;
          partner = k.partner;
          old = old;
          new = new;
          left = left;
          taken = taken;
          present = at_old;
          least = eqb-true (least_of x.view).0 p.0 (and_right same least both);
          past = f.0;
          rises = f.2;
          below = leb-true new.0 32 below;
          proposed = (own p.0 k.acts.known).variables.own_proposed (λ one. omega (arith, f, at_old));
          stops = k.stops;
          trust = same_trust s t p.0 k.trust;
          effect = (k.effect refl).effect;
        }))
        (k.effect refl).just)
        (λ last k. never k (omega arith)))
        (λ other k.
        tells
        (ignores
        (record {
          acts = k.acts;
          partner = k.partner;
          old = old;
          new = new;
          left = left;
          taken = taken;
          idle = λ a b. true_is_not_false (sym (and_intro (eq-eqb x.propout.0 old.0 a) (eq-eqb (least_of x.view).0 p.0 b)) ∙ other);
          trust = same_trust s t p.0 k.trust;
          effect = (k.quiet refl refl).effect;
        }))
        (k.quiet refl refl).just)
    message_cases (Acc i) taken e =
        let x = variables_at s p.0 in
        let past = (acc_facts s.n q.0 p.0 i e).0 in
        by_pick (λ (y : Variables). Case left p.0 q.0 (Receive q p) (committing_plan y)) (eqb x.propout.0 i.0) _ _
        (λ same. acc_cases i (with x.acks q.0) taken past (present (eqb-true x.propout.0 i.0 same) refl))
        (λ other. acc_cases i x.acks taken past (stale (eqb-false x.propout.0 i.0 other) refl))
    message_cases (Commit v i) taken e =
        λ k. tells
        (enters
        (record {
          acts = k.acts;
          partner = k.partner;
          view = v;
          index = i;
          left = left;
          taken = taken;
          sound = proposal_facts s.n q.0 p.0 v i.0 e;
          trust = same_trust s t p.0 k.trust;
          effect = (k.quiet refl refl).effect;
        }))
        (k.quiet refl refl).just

  receive_cases : (q p : ProcessId) (ms : List Message) → waiting_at s q.0 p.0 ≡ ms
      → Case (waiting_at (with_channel s q.0 p.0 (popped (channel_at s q.0 p.0)))) p.0 q.0 (Receive q p)
      (receive_plan q p.0 (variables_at s p.0) (front_of ms))
  unfolding receive_plan
  receive_cases q p [] e k = never k (omega arith)
  receive_cases q p (m ∷ ms) e k =
      let to = k.acts.known in
      let from = k.partner in
      let c = (sound s valid).channel q.0 p.0 from.low from.high to.low to.high in
      message_cases q p _ m
      (taken_first s valid.shape q.0 p.0 c.short m ms e)
      (subst (Each (λ n. sound_message s.n q.0 p.0 n ≡ true)) e c.messages).0
      k

  cases : (o : Action) → Performed s t (waiting_at (taken_off s (scope_of o))) (scope_of o).actor.0 (scope_of o).partner.0 (plan_of s o) reach
      → Reaches s t o reach
  unfolding outlined outline plan_of scope_of taken_off pick
  cases (Report p v) k = report_cases p v k
  cases (Receive q p) k = receive_cases q p (waiting_at s q.0 p.0) refl k
  cases (Respond p q) k = respond_cases p q (pending_at (process_at s p.0) q.0) refl k
  cases (Crash p) k =
      tells (crashes (record { acts = k.acts; trust = same_trust s t p.0 k.trust; effect = (k.quiet refl refl).effect })) (k.quiet refl refl).just

-- ---- the step
-- on a sound system the step is what is attempted
pub sound_stepped : (s : System) (o : Step) → sound_system s ≡ true → stepped s o ≡ attempted s o
unfolding stepped pick
sound_stepped s o e = rw e

-- a step done on a valid system is one of the transitions, and tells just the addressees of its plan, as it is cut
pub transition_told : (s : System) (o : Step) → Valid s → (stepped s o).refusal ≡ 0
    → Reaches s (stepped s o).system o.action (cut_by o.cut (plan_of s o.action)).addressees
unfolding attempted
transition_told s o valid = grind (arith, sound_stepped, cases, performed, carried)

pub transition : (s : System) (o : Step) → Valid s → (stepped s o).refusal ≡ 0 → Transition s (stepped s o).system o.action
transition s o valid e = (transition_told s o valid e).transition

-- a step is done, or it is refused: then the system comes back as it was
pub done_or_refused : (s : System) (o : Step) → ((stepped s o).refusal ≡ 0) ⊎ (stepped s o ≡ refused (stepped s o).refusal s)
unfolding stepped attempted permitted carried_out pick
done_or_refused s o = grind arith

-- so: what is so of the system after each transition, and of each refusal, is so of the outcome
pub by_outcome : (P : Outcome → Type 0) (s : System) (o : Step) → Valid s → ((t : System) → Transition s t o.action → P (done t))
    → ((k : ℕ) → (k ≡ 0 → ⊥) → P (refused k s))
    → P (stepped s o)
by_outcome P s o valid did not_done = grind (arith, transition, done_or_refused)
