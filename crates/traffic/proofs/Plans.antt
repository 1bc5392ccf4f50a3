-- Of every plan, whole or cut: its addressees are processes of the system, it leaves it to the stop whether its process has stopped, and one
-- that takes a message finds one.
use Prim.Native.Nat.{ℕ, ◌≤◌, ◌<◌}
use mathlib.Core.Path.{◌≡◌, refl}
use mathlib.Core.Bool.{true, ◌&&◌, not}
use mathlib.Core.List.{List, [], ◌∷◌}
use native.Mathlib.Omega.{arith}
use lib.Dec.{leb, ltb, eqb}
use Rattle.std.specs.Prelude.{None, Some, Result}
use Rattle.view.specs.declared.ProcessId.{ProcessId}
use Rattle.view.specs.View.{has, within, subset, with, minus, least_of, count_of, first_members}
use Rattle.view.specs.Logic.{pick}
use Rattle.view.proofs.Laws.{by_pick, and_left}
use Rattle.view.proofs.Sets.{has_inside, within_if, within_none, within-with, first_has}
use Rattle.channel.specs.declared.Message.{Message}
use Rattle.channel.specs.declared.Message.TheVariants.{Propose, Retry, Acc, Commit}
use Rattle.channel.specs.Channel.{front_of, waiting}
use Rattle.system.specs.declared.Variables.{Variables}
use Rattle.system.specs.declared.System.{System}
use Rattle.system.specs.declared.refusal.Refusal.{Refusal}
use Rattle.system.specs.Process.{pending_at, Pending}
use Rattle.system.specs.System.{process_at, variables_at, channel_at, trust_at}
use Rattle.plan.specs.declared.Cut.{Cut}
use Rattle.plan.specs.declared.Reach.{Reach}
use Rattle.plan.specs.declared.Cut.TheVariants.{Whole, After}
use Rattle.plan.specs.declared.Action.{Action}
use Rattle.plan.specs.declared.Action.TheVariants.{Report, Receive, Respond, Crash}
use Rattle.plan.specs.Fields.{with_acks}
use Rattle.plan.specs.Plan.{new_view_plan, report_plan, committing_plan, message_plan, receive_plan, respond_plan, Planned}
use Rattle.plan.specs.Scope.{scope_of}
use Rattle.plan.specs.Cut.{reach_of, cut_by, within_reach}
use Rattle.step.specs.Step.{plan_of}
use Rattle.step.proofs.Soundness.{Sound}
use Rattle.step.proofs.Cases.{Known}

-- a plan of a process with variables x, among n processes
pub record Fits (n : ℕ) (x : Variables) (a : Planned) : Type 0 where
  pub inside : within n a.addressees ≡ true
  pub calm : a.change.variables.crashed ≡ x.crashed

-- it sends nothing
sends_none : {n : ℕ} {x : Variables} {a : Planned} → a.addressees ≡ 0 → a.change.variables.crashed ≡ x.crashed → Fits n x a
sends_none {n} {x} {a} none calm = grind (arith, within_none)

report_fits_lem : (n p v : ℕ) (x : Variables) (trust : ℕ) → Fits n x (report_plan n p v x trust)
unfolding report_plan new_view_plan
report_fits_lem n p v x trust =
    by_pick (Fits n x) (within n v && has v p) _ _
    (λ named.
    by_pick (Fits n x) (subset (minus v x.view) trust) _ _
    (λ may.
    by_pick (Fits n x) (eqb (least_of v).0 p) _ _
    (λ least. by_pick (Fits n x) (ltb x.propout.0 32) _ _ (λ below. record { inside = and_left (within n v) (has v p) named; calm = refl }) (λ last. sends_none refl refl))
    (λ other. sends_none refl refl))
    (λ early. sends_none refl refl))
    (λ odd. sends_none refl refl)

respond_fits : (n : ℕ) (q : ProcessId) (x : Variables) (y : Pending) → 1 ≤ q.0 → q.0 ≤ n → q.0 ≤ 8 → Fits n x (respond_plan q x y)
unfolding respond_plan pick
respond_fits n q x None low high eight = sends_none refl refl
respond_fits n q x (Some r) low high eight = grind (arith, within-with, within_none)

module _ (n : ℕ) (q : ProcessId) (p : ℕ) (x : Variables) (view : within n x.view ≡ true) (proposal : within n x.proposal ≡ true) where
  committing_fits : (acks : ℕ) → Fits n x (committing_plan (with_acks x acks))
  unfolding committing_plan
  committing_fits acks =
      by_pick (Fits n x) (not (eqb x.proposal 0) && subset x.proposal acks) _ _ (λ both. record { inside = proposal; calm = refl }) (λ part. sends_none refl refl)

  message_fits : (m : Message) → Fits n x (message_plan q p x m)
  unfolding message_plan
  message_fits (Propose v i) = sends_none refl refl
  message_fits (Retry old new) =
      by_pick (Fits n x) (eqb x.propout.0 old.0 && eqb (least_of x.view).0 p) _ _
      (λ both. by_pick (Fits n x) (leb new.0 32) _ _ (λ below. record { inside = view; calm = refl }) (λ last. sends_none refl refl))
      (λ other. sends_none refl refl)
  message_fits (Acc i) =
      by_pick (λ (y : Variables). Fits n x (committing_plan y)) (eqb x.propout.0 i.0) _ _
      (λ same. committing_fits (with x.acks q.0))
      (λ other. committing_fits x.acks)
  message_fits (Commit v i) = sends_none refl refl

  receive_fits : (ms : List Message) → Fits n x (receive_plan q p x (front_of ms))
  unfolding receive_plan
  receive_fits [] = sends_none refl refl
  receive_fits (m ∷ ms) = message_fits m

plan_fits : (s : System) → Sound s → (o : Action) → Known s (scope_of o).actor.0 → Known s (scope_of o).partner.0
    → Fits s.n (variables_at s (scope_of o).actor.0) (plan_of s o)
unfolding plan_of scope_of
plan_fits s sound (Report p v) k j = report_fits_lem s.n p.0 v (variables_at s p.0) (trust_at s p.0)
plan_fits s sound (Receive q p) k j =
    let f = (sound.process p.0 k.low k.high).variables in
    receive_fits s.n q p.0 (variables_at s p.0) f.view_inside f.proposal_inside (waiting (channel_at s q.0 p.0))
plan_fits s sound (Respond p q) k j = respond_fits s.n q (variables_at s p.0) (pending_at (process_at s p.0) q.0) j.low j.high j.eight
plan_fits s sound (Crash p) k j = sends_none refl refl

-- ---- cut or not
cut_fits : (n : ℕ) (x : Variables) (cut : Cut) (a : Planned) → Fits n x a → Fits n x (cut_by cut a)
unfolding cut_by reach_of
cut_fits n x Whole a f = f
cut_fits n x (After k) a f =
    by_pick (Fits n x) (eqb a.refusal 0) _ _
    (λ plain.
    by_pick (λ (r : Result Reach Refusal). Fits n x (within_reach a r)) (ltb k (count_of a.addressees)) _ _
    (λ early. record { inside = within_if n (first_members k a.addressees) (λ b h. has_inside n a.addressees b f.inside (first_has k a.addressees b h)); calm = f.calm })
    (λ late. sends_none refl f.calm))
    (λ refusal. f)

pub step_fits : (s : System) → Sound s → (o : Action) (cut : Cut) → Known s (scope_of o).actor.0 → Known s (scope_of o).partner.0
    → Fits s.n (variables_at s (scope_of o).actor.0) (cut_by cut (plan_of s o))
step_fits s sound o cut k j = cut_fits s.n _ cut (plan_of s o) (plan_fits s sound o k j)

-- what is not refused once it is cut would not be refused
pub cut_plain : (cut : Cut) (a : Planned) → (cut_by cut a).refusal ≡ 0 → a.refusal ≡ 0
unfolding cut_by reach_of pick
cut_plain Whole a = λ e. e
cut_plain (After k) a = grind arith

-- ---- a message is taken where one waits
pub message_found : (s : System) (o : Action) → (plan_of s o).refusal ≡ 0 → (scope_of o).takes ≡ true
    → 0 < (channel_at s (scope_of o).partner.0 (scope_of o).actor.0).len
unfolding plan_of scope_of receive_plan waiting
message_found s (Report p v) plain takes = absurd (let z : ◌≡◌ {A = ℕ} 0 1 = cc in omega arith)
message_found s (Receive q p) plain takes = grind arith
message_found s (Respond p q) plain takes = absurd (let z : ◌≡◌ {A = ℕ} 0 1 = cc in omega arith)
message_found s (Crash p) plain takes = absurd (let z : ◌≡◌ {A = ℕ} 0 1 = cc in omega arith)
