-- A move that counts a committed proposal is the transition that sends Commits.
use Prim.Native.Nat.{ℕ}
use mathlib.Core.Path.{◌≡◌, refl, ap, subst}
use mathlib.Core.Bool.{Bool, true, false}
use mathlib.Core.List.{List}
use native.Mathlib.Omega.{arith}
use borrow.Author.Clash.{clash}
use borrow.Author.Tests.{ne_eqb}
use lib.Dec.{eqb}
use Rattle.std.specs.Prelude.{None, Some}
use Rattle.view.specs.declared.ProcessId.{ProcessId}
use Rattle.view.specs.declared.GroupIndex.{GroupIndex}
use Rattle.view.specs.Logic.{pick, one}
use Rattle.view.specs.View.{subset, with}
use Rattle.channel.specs.declared.Message.{Message}
use Rattle.channel.specs.declared.Message.TheVariants.{Retry}
use Rattle.system.specs.declared.Variables.{Variables}
use Rattle.system.specs.declared.System.{System}
use Rattle.system.specs.Outcome.{refused}
use Rattle.system.specs.Process.{Pending}
use Rattle.system.specs.System.{variables_at}
use Rattle.plan.specs.declared.Cut.{Cut}
use Rattle.plan.specs.declared.Step.{Step}
use Rattle.plan.specs.declared.Cut.TheVariants.{Whole, After}
use Rattle.plan.specs.declared.Action.{Action}
use Rattle.plan.specs.declared.Action.TheVariants.{Report, Receive, Respond, Crash}
use Rattle.plan.specs.Fields.{with_acks}
use Rattle.plan.specs.Plan.{new_view_plan, report_plan, committing_plan, message_plan, receive_plan, respond_plan, Planned}
use Rattle.plan.specs.Scope.{scope_of}
use Rattle.plan.specs.Cut.{reach_of, cut_by}
use Rattle.step.specs.Step.{plan_of, stepped}
use Rattle.events.specs.Counts.{is_commit, plan_tally, step_tally, move_tally}
use Rattle.step.proofs.Soundness.{Valid}
use Rattle.step.proofs.Cases.{Taken, Marking, present, stale, Commits, Transition, proposes, follows, records, reproposes, ignores, marks, commits, enters, accepts, declines, crashes}
use Rattle.step.proofs.Inversion.{transition}
use Rattle.events.specs.Event.{Move, made, moved}
use Rattle.events.proofs.Runs.{Made}
use Rattle.traffic.specs.Traffic.{acting_in}
use Rattle.traffic.proofs.Steps.{made_tally}

-- process p sends Commits
pub record Committing (s t : System) (p : ℕ) : Type 0 where
  pub from : ProcessId
  pub by : ProcessId
  pub same : by.0 ≡ p
  pub case : Commits s t from by

-- ---- plans that send no Commit
abbrev Plain : Planned → Type 0
Plain a = is_commit a.message ≡ false

report_plain : (n p v : ℕ) (x : Variables) (trust : ℕ) → Plain (report_plan n p v x trust)
unfolding report_plan new_view_plan is_commit pick
report_plain n p v x trust = grind arith

respond_plain : (q : ProcessId) (x : Variables) (y : Pending) → Plain (respond_plan q x y)
unfolding respond_plan is_commit pick
respond_plain q x None = refl
respond_plain q x (Some r) = grind arith

-- an Acc after which not all are marked
part_plain : (x : Variables) (acks : ℕ) → ((x.proposal ≡ 0 → ⊥) → subset x.proposal acks ≡ false) → Plain (committing_plan (with_acks x acks))
unfolding committing_plan is_commit pick
part_plain x acks partial = grind arith

mark_plain : (q : ProcessId) (x : Variables) (i acks : ℕ) → Marking x q.0 i acks → ((x.proposal ≡ 0 → ⊥) → subset x.proposal acks ≡ false)
    → Plain (committing_plan (pick (eqb x.propout.0 i) (with_acks x (with x.acks q.0)) x))
unfolding pick
mark_plain q x i acks (present e a) partial = grind (arith, part_plain)
mark_plain q x i acks (stale e a) partial = rw (ne_eqb x.propout.0 i e) (subst (λ (k : ℕ). Plain (committing_plan (with_acks x k))) a (part_plain x acks partial))

retry_plain : (q : ProcessId) (p : ℕ) (x : Variables) (old new : GroupIndex) → Plain (message_plan q p x (Retry old new))
unfolding message_plan is_commit pick
retry_plain q p x old new = grind arith

-- the plan of a take, once the oldest message is known
taking_plain : (s : System) (q p : ProcessId) (m : Message) (left : ℕ → ℕ → List Message) → Taken s q.0 p.0 m left
    → Plain (message_plan q p.0 (variables_at s p.0) m)
    → Plain (plan_of s (Receive q p))
unfolding plan_of scope_of receive_plan
taking_plain s q p m left taken plain = grind arith

-- ---- each transition
module _ {s t : System} where
  commits_only : (o : Action) → Transition s t o → is_commit (plan_of s o).message ≡ true → Committing s t (scope_of o).actor.0
  unfolding plan_of scope_of message_plan is_commit
  commits_only (Report p v) (proposes r) e = grind (arith, report_plain)
  commits_only (Report p v) (follows r) e = grind (arith, report_plain)
  commits_only (Receive q p) (records r) e = clash _ e (taking_plain s q p _ _ r.taken refl)
  commits_only (Receive q p) (reproposes r) e =
      clash _ e (taking_plain s q p _ _ r.taken (retry_plain q p.0 (variables_at s p.0) r.old r.new))
  commits_only (Receive q p) (ignores r) e = clash _ e (taking_plain s q p _ _ r.taken (retry_plain q p.0 (variables_at s p.0) r.old r.new))
  commits_only (Receive q p) (marks r) e =
      clash _ e (taking_plain s q p _ _ r.taken (mark_plain q (variables_at s p.0) r.index.0 r.acks r.marking r.partial))
  commits_only (Receive q p) (commits r) e = record { from = q; by = p; same = refl; case = r }
  commits_only (Receive q p) (enters r) e = clash _ e (taking_plain s q p _ _ r.taken refl)
  commits_only (Respond p q) (accepts r) e = grind (arith, respond_plain)
  commits_only (Respond p q) (declines r) e = grind (arith, respond_plain)
  commits_only (Crash p) (crashes r) e = clash _ e refl

-- ---- whole or cut
-- what sends Commits once it is cut would send them
uncut : (cut : Cut) (a : Planned) → is_commit (cut_by cut a).message ≡ true → is_commit a.message ≡ true
unfolding cut_by reach_of is_commit pick
uncut Whole a = λ e. e
uncut (After k) a = grind arith

is_one : (t : Bool) → one t ≡ 1 → t ≡ true
unfolding one pick
is_one true e = refl
is_one false e = absurd (omega arith)

-- ---- a step that is done
pub step_committing : {s t : System} {o : Step} → Valid s → Made s t o → (step_tally s o).committed ≡ 1 → Committing s t (scope_of o.action).actor.0
unfolding plan_tally
step_committing valid r e = grind (arith, made_tally, commits_only, uncut, is_one)

pub committing : (s : System) → Valid s → (m : Move) → (moved s m).refusal ≡ 0 → (move_tally s m).committed ≡ 1 → Committing s (moved s m).system (acting_in m)
unfolding moved move_tally acting_in
committing s valid (made o) e =
    step_committing valid (record { done = ap (λ (k : ℕ). refused k (stepped s o).system) e; change = transition s o valid e })
