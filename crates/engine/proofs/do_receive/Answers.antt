-- `engine::do_receive`: by the guard, and by what is chosen.
use Prim.Native.Nat.{ℕ}
use mathlib.Core.Path.{◌≡◌, refl, ◌∙◌}
use mathlib.Core.List.{List}
use Rattle.std.specs.Prelude.{Ok}
use Rattle.system.specs.System.{variables_at}
use Rattle.plan.specs.declared.Action.TheVariants.{Receive}
use Rattle.plan.specs.declared.ReceiveChoice.{ReceiveChoice}
use Rattle.plan.specs.Choice.{received_plan}
use Rattle.plan.specs.Plan.{Planned}
use Rattle.plan.specs.Scope.{taking, scope_of}
use Rattle.image.specs.Image.{system_in}
use Rattle.alternatives.specs.Gives.{Gives, carried}
use Rattle.engine.specs.Engine.{Attempts}
use Rattle.engine.proofs.Given.{turned_away}
use Rattle.engine.proofs.Chosen.{receive_refused, received}
use Rattle.engine.proofs.do_receive.Goals as goal
use Rattle.engine.proofs.do_receive.Goals.{In_ok-view}

pub returns-in_err-guard : goal.returns-in_err-guard
unfolding scope_of
returns-in_err-guard c = turned_away _ _ _ _ c.from_residual.ensures.1 c.in_err-guard.ensures

pub returns-in_err-view : goal.returns-in_err-view
returns-in_err-view c = receive_refused _ _ _ _ _ c.in_ok-guard.ensures _ _ _ c.variables_at-x.ensures c.front_at.ensures c.receive_choice.ensures _ _ c.from_residual-in_err-view.ensures.1 c.in_err-view.was

chosen : (c : In_ok-view) (y : ReceiveChoice) → c.in_ok-view.field-0 ≡ y → (a : Planned) (k : ℕ) (d : List ℕ)
    → Gives (carried (system_in c.args.image.now) (taking c.args.q c.args.p) c.args.cut a) c.args.image.now k d
    → a ≡ received_plan c.args.q (variables_at (system_in c.args.image.now) c.args.p.0) (Ok y)
    → Attempts (record { action = Receive c.args.q c.args.p; cut = c.args.cut }) c.args.image.now k d
chosen c y is a k d gives plan =
    received _ _ _ _ _ c.in_ok-guard.ensures _ _ _ c.variables_at-x.ensures c.front_at.ensures c.receive_choice.ensures a k d gives (plan ∙ rw (c.in_ok-view.was, is, c.variables_at-x.ensures))

pub returns-in-Record : goal.returns-in-Record
unfolding received_plan
returns-in-Record c = chosen (goal.at.returns-in-Record c).In_ok-view _ c.in-Record.is _ _ _ c.record_proposal.ensures refl

pub returns-in-Skip : goal.returns-in-Skip
unfolding received_plan
returns-in-Skip c = chosen (goal.at.returns-in-Skip c).In_ok-view _ c.in-Skip.is _ _ _ c.skip_message.ensures refl

pub returns-in-CommitAll : goal.returns-in-CommitAll
unfolding received_plan
returns-in-CommitAll c = chosen (goal.at.returns-in-CommitAll c).In_ok-view _ c.in-CommitAll.is _ _ _ c.send_taken.ensures (rw (c.with_acks.ensures, c.variables_at-x.ensures))

pub returns-in-Mark : goal.returns-in-Mark
unfolding received_plan
returns-in-Mark c = chosen (goal.at.returns-in-Mark c).In_ok-view _ c.in-Mark.is _ _ _ c.mark_acks.ensures refl

pub returns-in-ProposeAgain : goal.returns-in-ProposeAgain
unfolding received_plan
returns-in-ProposeAgain c = chosen (goal.at.returns-in-ProposeAgain c).In_ok-view _ c.in-ProposeAgain.is _ _ _ c.send_taken-in-ProposeAgain.ensures (rw (c.reproposing.ensures, c.variables_at-x.ensures))

pub returns-in-Enter : goal.returns-in-Enter
unfolding received_plan
returns-in-Enter c = chosen (goal.at.returns-in-Enter c).In_ok-view _ c.in-Enter.is _ _ _ c.enter_view.ensures refl
