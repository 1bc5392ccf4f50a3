-- What was chosen is the plan of the action.
use Prim.Native.Nat.{ℕ, ◌+◌}
use mathlib.Core.Path.{◌≡◌, refl, ◌∙◌}
use mathlib.Core.List.{List}
use borrow.Author.Tests.{lt-ltb}
use lib.Dec.{ltb}
use Rattle.std.specs.Prelude.{Result, Ok, Err, Option, IfOk}
use Rattle.std.specs.Result.{IsErrAnd}
use Rattle.std.proofs.lemmas.Result.{err_from_is_err_and}
use Rattle.view.specs.Logic.{pick}
use Rattle.view.specs.View.{minus, everyone}
use Rattle.view.specs.declared.ProcessId.{ProcessId}
use Rattle.view.specs.declared.GroupIndex.{GroupIndex}
use Rattle.channel.specs.declared.Message.{Message}
use Rattle.channel.specs.declared.Message.TheVariants.{Propose}
use Rattle.channel.specs.Channel.{front}
use Rattle.system.specs.declared.Variables.{Variables}
use Rattle.system.specs.declared.refusal.Refusal.{Refusal}
use Rattle.system.specs.Refusal.{number, answer_number}
use Rattle.system.specs.Process.{pending_at, Pending}
use Rattle.system.specs.System.{process_at, variables_at, channel_at, trust_at}
use Rattle.plan.specs.declared.Action.TheVariants.{Report, Receive, Respond, Crash}
use Rattle.plan.specs.declared.Cut.{Cut}
use Rattle.plan.specs.declared.Step.{Step}
use Rattle.plan.specs.declared.Reply.{Reply}
use Rattle.plan.specs.declared.ReportChoice.{ReportChoice}
use Rattle.plan.specs.declared.ReportChoice.TheVariants.{ProposeAfter}
use Rattle.plan.specs.declared.ReceiveChoice.{ReceiveChoice}
use Rattle.plan.specs.Fields.{proposing}
use Rattle.plan.specs.Plan.{Planned, assigning, sending, refusing, doubting, report_plan, receive_plan, respond_plan}
use Rattle.plan.specs.Choice.{reported_plan, report_fits, received_plan, responded_plan}
use Rattle.plan.specs.Cut.{only_whole}
use Rattle.plan.proofs.Choices.{propout_below}
use Rattle.plan.specs.Scope.{scope_of, facing, taking}
use Rattle.step.specs.Step.{plan_of, guarded, taken_off, crashed_at}
use Rattle.image.specs.Image.{system_in, Becomes}
use Rattle.alternatives.specs.Gives.{Gives, carried}
use Rattle.alternatives.proofs.Carrying.{refusing_gives, not_stopped, stop_done}
use Rattle.engine.specs.Engine.{Attempts}
use Rattle.engine.proofs.Given.{passes}

-- a plan that is a refusal
module _ (b : List ℕ) (o : Step) (u : Unit {0}) (guard : Ok u ≡ guarded (system_in b) (scope_of o.action).actor (scope_of o.action).partner) where
  refuses : (v : Variables) (x : Result (Unit {0}) Refusal) (r : Refusal) → IsErrAnd x (λ y. y ≡ r) → refusing (number r) v ≡ plan_of (system_in b) o.action
      → Attempts o b (answer_number x) b
  refuses v x r passed plan =
      let y = err_from_is_err_and x passed in
      rw (y.1, y.2) (passes b o u guard _ _ _ (refusing_gives b _ _ o.cut v r) plan)

module _ (b : List ℕ) (p : ProcessId) (view : ℕ) (cut : Cut) where
  abbrev report : Step
  report = record { action = Report p view; cut = cut }

  module _ (u : Unit {0}) (guard : Ok u ≡ guarded (system_in b) p p) (n : ℕ) (x : Variables) (trust : ℕ) (y : Result ReportChoice Refusal)
      (size : n ≡ (system_in b).n) (variables : x ≡ variables_at (system_in b) p.0) (may : trust ≡ trust_at (system_in b) p.0)
      (chosen : reported_plan n view x y ≡ report_plan n p.0 view x trust) where
    planned : reported_plan n view x y ≡ plan_of (system_in b) (Report p view)
    unfolding plan_of scope_of
    planned = chosen ∙ rw (size, variables, may)

    pub report_refused : (z : Result (Unit {0}) Refusal) (r : Refusal) → IsErrAnd z (λ w. w ≡ r) → y ≡ Err r → Attempts report b (answer_number z) b
    unfolding reported_plan scope_of
    report_refused z r passed told = refuses b report u guard x z r passed (rw told at planned)

    pub reported : (a : Planned) (k : ℕ) (d : List ℕ) → Gives (carried (system_in b) (facing p p) cut a) b k d → a ≡ reported_plan n view x y → Attempts report b k d
    unfolding scope_of
    reported a k d gives is = passes b report u guard a k d gives (is ∙ planned)

    pub proposed : (i : GroupIndex) (k : ℕ) (d : List ℕ) → i ≡ record { 0 = pick (ltb x.propout.0 32) (x.propout.0 + 1) x.propout.0 }
        → y ≡ Ok ProposeAfter → IfOk y (report_fits x)
        → Gives (carried (system_in b) (facing p p) cut (doubting (minus (everyone (system_in b).n) view) (sending (assigning (proposing (variables_at (system_in b) p.0) view i.0)) view (Propose view i)))) b k d
        → Attempts report b k d
    unfolding reported_plan pick
    proposed i k d counted told fits gives =
        reported _ k d gives (rw (told, counted, lt-ltb x.propout.0 32 (propout_below x told fits), size, variables))

module _ (b : List ℕ) (q p : ProcessId) (cut : Cut) where
  abbrev take : Step
  take = record { action = Receive q p; cut = cut }

  module _ (u : Unit {0}) (guard : Ok u ≡ guarded (system_in b) p q) (x : Variables) (f : Option Message) (y : Result ReceiveChoice Refusal)
      (variables : x ≡ variables_at (system_in b) p.0) (oldest : f ≡ front (channel_at (system_in b) q.0 p.0))
      (chosen : received_plan q x y ≡ receive_plan q p.0 x f) where
    received_as : received_plan q x y ≡ plan_of (system_in b) (Receive q p)
    unfolding plan_of scope_of
    received_as = chosen ∙ rw (variables, oldest)

    pub receive_refused : (z : Result (Unit {0}) Refusal) (r : Refusal) → IsErrAnd z (λ w. w ≡ r) → y ≡ Err r → Attempts take b (answer_number z) b
    unfolding received_plan scope_of
    receive_refused z r passed told = refuses b take u guard x z r passed (rw told at received_as)

    pub received : (a : Planned) (k : ℕ) (d : List ℕ) → Gives (carried (system_in b) (taking q p) cut a) b k d → a ≡ received_plan q x y → Attempts take b k d
    unfolding scope_of
    received a k d gives is = passes b take u guard a k d gives (is ∙ received_as)

module _ (b : List ℕ) (p q : ProcessId) (cut : Cut) where
  abbrev answer : Step
  answer = record { action = Respond p q; cut = cut }

  module _ (u : Unit {0}) (guard : Ok u ≡ guarded (system_in b) p q) (x : Variables) (f : Pending) (y : Result Reply Refusal)
      (variables : x ≡ variables_at (system_in b) p.0) (recorded : f ≡ pending_at (process_at (system_in b) p.0) q.0)
      (chosen : (w : ProcessId) → responded_plan w x y ≡ respond_plan w x f) where
    responded_as : responded_plan q x y ≡ plan_of (system_in b) (Respond p q)
    unfolding plan_of scope_of
    responded_as = chosen q ∙ rw (variables, recorded)

    pub respond_refused : (z : Result (Unit {0}) Refusal) (r : Refusal) → IsErrAnd z (λ w. w ≡ r) → y ≡ Err r → Attempts answer b (answer_number z) b
    unfolding responded_plan scope_of
    respond_refused z r passed told = refuses b answer u guard x z r passed (rw told at responded_as)

    pub responded : (a : Planned) (k : ℕ) (d : List ℕ) → Gives (carried (system_in b) (facing p q) cut a) b k d → a ≡ responded_plan q x y → Attempts answer b k d
    unfolding scope_of
    responded a k d gives is = passes b answer u guard a k d gives (is ∙ responded_as)

module _ (b : List ℕ) (p : ProcessId) (cut : Cut) (u : Unit {0}) (guard : Ok u ≡ guarded (system_in b) p p) where
  abbrev stop : Step
  stop = record { action = Crash p; cut = cut }

  pub crash_refused : (z : Result (Unit {0}) Refusal) (r : Refusal) → IsErrAnd z (λ w. w ≡ r) → Err r ≡ only_whole cut → Attempts stop b (answer_number z) b
  unfolding plan_of taken_off scope_of pick
  crash_refused z r passed told = passes b stop u guard _ _ _ (not_stopped b (system_in b) p.0 cut z r passed told) refl

  pub crashed : (x : Unit {0}) (d : List ℕ) → Ok x ≡ only_whole cut → Becomes (crashed_at (system_in b) p.0) b d → Attempts stop b 0 d
  unfolding plan_of taken_off scope_of pick
  crashed x d told stops = passes b stop u guard _ _ _ (stop_done b (system_in b) p.0 cut x d told stops) refl
