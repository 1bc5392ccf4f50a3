-- Each transition: nothing more is due between any two processes, and a take or an answer pays one of what is due between its two.
use Prim.Native.Nat.{ℕ, ◌+◌, ◌*◌, ◌≤◌, ◌<◌}
use mathlib.Core.Path.{◌≡◌, refl}
use mathlib.Core.Bool.{Bool}
use mathlib.Core.List.{List}
use native.Mathlib.Omega.{arith}
use Rattle.std.specs.Prelude.{None, Some}
use Rattle.view.specs.declared.ProcessId.{ProcessId}
use Rattle.view.specs.declared.GroupIndex.{GroupIndex}
use Rattle.view.specs.View.{has, with}
use Rattle.view.proofs.Sets.{subset-has}
use Rattle.channel.specs.declared.Message.{Message}
use Rattle.channel.specs.declared.Message.TheVariants.{Propose}
use Rattle.system.specs.declared.System.{System}
use Rattle.system.specs.Process.{pending_at, proposal_at}
use Rattle.system.specs.System.{process_at, variables_at}
use Rattle.plan.specs.declared.Change.{Change}
use Rattle.plan.specs.declared.Action.{Action}
use Rattle.plan.specs.declared.Action.TheVariants.{Report, Receive, Respond, Crash}
use Rattle.step.proofs.Frames.{Shape}
use Rattle.step.proofs.Cases.{waiting_at, Known, Effect, Transition, proposes, follows, records, reproposes, ignores, marks, commits, enters, accepts, declines, crashes}
use Rattle.settling.specs.Steps.{take_or_answer}
use Rattle.step.proofs.Weights.{one_true, unmarked, marked, is, is_self, is_other, mark, count, none_off, taken_off_lem}
use Rattle.step.proofs.Stakes.{selfward, stake, flows_sent, flows_answered, flows_quiet, held_steady, held_more, held_cleared, marks_paid, marks_fewer, ahead_steady, ahead_falls}
use Rattle.bound.proofs.Dues.{outward, inward, due, between}

-- d is paid between two of the processes, and nothing more is due anywhere
pub record Paid (s t : System) (d : ℕ) : Type 0 where
  pub proposer : ℕ
  pub other : ℕ
  pub from : Known s proposer
  pub to : Known s other
  pub pays : (a b : ℕ) → due t a b + d * (is a proposer * is b other) ≤ due s a b

-- ---- what the transitions share
module _ {s t : System} {left : ℕ → ℕ → List Message} {p : ℕ} {c : Change} {stops : Bool} {to : ℕ} {m : Message} (f : Effect s t left p c stops to m)
    (off : (Message → ℕ) → ℕ → ℕ → ℕ)
    (taken : (w : Message → ℕ) (a b : ℕ) → count w (left a b) + off w a b ≡ count w (waiting_at s a b))
    (none : c.proposer.0 ≡ 0) where
  -- nothing is sent, and marks and PropOut stay: what is taken off is paid
  idle : to ≡ 0 → c.variables.acks ≡ (variables_at s p).acks → c.variables.propout ≡ (variables_at s p).propout → (a b : ℕ)
      → due t a b + (off outward a b + off inward b a) ≤ due s a b
  unfolding due stake mark
  idle quiet acks out a b =
      omega
      (arith, between (flows_quiet f off taken quiet) a b, held_steady f none a b, held_steady f none a a, marks_fewer f (rw acks (omega arith)) a, ahead_steady f out a)

  -- a proposal is sent, and the marks are cleared: PropOut pays for the proposal
  proposing : (v : ℕ) (i : GroupIndex) → m ≡ Propose v i → c.variables.acks ≡ 0 → (variables_at s p).propout.0 < c.variables.propout.0
      → c.variables.propout.0 ≤ 32
      → (a b : ℕ)
      → due t a b + (off outward a b + off inward b a) ≤ due s a b
  unfolding due stake outward inward selfward
  proposing v i e acks rises below a b =
      let sent = rw e at (between (flows_sent f off taken) a b) in
      omega
      (arith, sent, held_steady f none a b, held_steady f none a a, marks_fewer f (rw acks (omega (arith, unmarked p))) a, ahead_falls f rises below a)

-- an answer: the record pays for it
answering : {s t : System} {p v : ℕ} {i : GroupIndex} {q : ProcessId} {c : Change} {stops : Bool} {m : Message}
    (f : Effect s t (waiting_at s) p c stops (with 0 q.0) m)
    → c.proposer.0 ≡ q.0
    → c.pending ≡ None
    → Shape s
    → Known s q.0
    → pending_at (process_at s p) q.0 ≡ Some (proposal_at v i)
    → (outward m ≡ 0) × (inward m ≡ 1) × (selfward m ≡ 1)
    → c.variables.acks ≡ (variables_at s p).acks
    → c.variables.propout ≡ (variables_at s p).propout
    → (a b : ℕ)
    → due t a b + is a q.0 * is b p ≤ due s a b
unfolding due stake mark
answering {s} {t} {p} {q = q} f same none shape from was e acks out a b =
    let cleared = held_cleared f _ _ _ same none from.low (omega (arith, from.eight, shape.pending p)) was in
    let sent = between (flows_answered f _ (none_off s) q.0 from.low from.eight refl) a b in
    omega (
      arith,
      rw e.0 at sent.out,
      rw e.1 at sent.back,
      rw e.2 at sent.self,
      cleared a b,
      cleared a a,
      marks_fewer f (rw acks (omega arith)) a,
      ahead_steady f out a,
    )

-- ---- each transition
module _ {s t : System} (shape : Shape s) where
  paid : {d q p : ℕ} → Known s q → Known s p → ((a b : ℕ) → due t a b + d * (is a q * is b p) ≤ due s a b) → Paid s t d
  paid {d} {q} {p} from to pays = grind arith

  pub transition_pays : (o : Action) → Transition s t o → Paid s t (take_or_answer o)
  unfolding take_or_answer due stake mark outward inward selfward
  transition_pays (Report p v) (proposes k) =
      paid k.acts.known k.acts.known
      (λ a b. omega (arith, proposing k.effect _ (none_off s) refl _ _ refl refl (omega arith) (omega (arith, k.below)) a b))
  transition_pays (Report p v) (follows k) =
      paid k.acts.known k.acts.known (λ a b. omega (arith, idle k.effect _ (none_off s) refl refl refl refl a b))
  transition_pays (Receive q p) (records k) =
      paid k.partner k.acts.known
      (λ a b.
      omega (
        arith,
        between (flows_quiet k.effect _ (taken_off_lem k.taken) refl) a b,
        held_more k.effect a b,
        held_more k.effect a a,
        marks_fewer k.effect (omega arith) a,
        ahead_steady k.effect refl a,
      ))
  transition_pays (Receive q p) (reproposes k) =
      paid k.acts.known k.partner
      (λ a b.
      omega (arith, proposing k.effect _ (taken_off_lem k.taken) refl _ _ refl refl (omega (arith, k.present, k.rises)) k.below a b))
  transition_pays (Receive q p) (ignores k) =
      paid k.acts.known k.partner (λ a b. omega (arith, idle k.effect _ (taken_off_lem k.taken) refl refl refl refl a b))
  transition_pays (Receive q p) (marks k) =
      let own = marked _ _ _ _ p.0 k.partner.low k.partner.eight k.marking in
      paid k.acts.known k.partner
      (λ a b.
      omega (
        arith,
        between (flows_quiet k.effect _ (taken_off_lem k.taken) refl) a b,
        held_steady k.effect refl a b,
        held_steady k.effect refl a a,
        marks_paid k.effect (λ j. 0) (λ j. is j q.0 * is j p.0) (rw (is_self p.0) (omega (arith, own))) (λ j h. omega arith) a,
        ahead_steady k.effect refl a,
      ))
  -- the mark of p, which is among all that are marked, pays for the Commits
  transition_pays (Receive q p) (commits k) =
      let own = marked _ _ _ _ p.0 k.partner.low k.partner.eight k.marking in
      let all = subset-has _ k.acks p.0 k.complete k.proposed in
      paid k.acts.known k.partner
      (λ a b.
      omega (
        arith,
        between (flows_sent k.effect _ (taken_off_lem k.taken)) a b,
        held_steady k.effect refl a b,
        held_steady k.effect refl a a,
        marks_paid k.effect (λ j. is j p.0) (λ j. is j q.0 * is j p.0)
            (rw (is_self p.0) (omega (arith, unmarked p.0, own, one_true (has k.acks p.0) all)))
            (λ j h. rw (is_other j p.0 h) (omega arith))
            a,
        ahead_steady k.effect refl a,
      ))
  transition_pays (Receive q p) (enters k) =
      paid k.partner k.acts.known (λ a b. omega (arith, idle k.effect _ (taken_off_lem k.taken) refl refl refl refl a b))
  transition_pays (Respond p q) (accepts k) =
      paid k.partner k.acts.known
      (λ a b. omega (arith, answering {q = q} k.effect refl refl shape k.partner k.recorded (refl, refl, refl) refl refl a b))
  transition_pays (Respond p q) (declines k) =
      paid k.partner k.acts.known
      (λ a b. omega (arith, answering {q = q} k.effect refl refl shape k.partner k.recorded (refl, refl, refl) refl refl a b))
  transition_pays (Crash p) (crashes k) =
      paid k.acts.known k.acts.known (λ a b. omega (arith, idle k.effect _ (none_off s) refl refl refl refl a b))
