-- `engine::do_respond`: by the guard, and by what is chosen.
use Rattle.plan.specs.Scope.{scope_of}
use Rattle.plan.specs.Choice.{responded_plan}
use Rattle.engine.proofs.Given.{turned_away}
use Rattle.engine.proofs.Chosen.{respond_refused, responded}
use Rattle.engine.proofs.do_respond.Goals as goal

pub returns-in_err-guard : goal.returns-in_err-guard
unfolding scope_of
returns-in_err-guard c = turned_away _ _ _ _ c.from_residual.ensures.1 c.in_err-guard.ensures

pub returns-in_err-next : goal.returns-in_err-next
returns-in_err-next c = respond_refused _ _ _ _ _ c.in_ok-guard.ensures _ _ _ c.variables_at-x.ensures c.pending_at.ensures c.respond_choice.ensures _ _ c.from_residual-in_err-next.ensures.1 c.in_err-next.was

pub returns : goal.returns
unfolding responded_plan
returns c = responded _ _ _ _ _ c.in_ok-guard.ensures _ _ _ c.variables_at-x.ensures c.pending_at.ensures c.respond_choice.ensures _ _ _ c.reply.ensures (rw (c.in_ok-next.was, c.variables_at-x.ensures))
