-- `engine::do_report`: by the guard, and by what is chosen.
use Rattle.plan.specs.Scope.{scope_of}
use Rattle.plan.specs.Choice.{reported_plan}
use Rattle.engine.proofs.Given.{turned_away}
use Rattle.engine.proofs.Chosen.{report_refused, reported, proposed}
use Rattle.engine.proofs.do_report.Goals as goal

pub returns-in_err-guard : goal.returns-in_err-guard
unfolding scope_of
returns-in_err-guard c = turned_away _ _ _ _ c.from_residual.ensures.1 c.in_err-guard.ensures

pub returns-in_err-report_choice : goal.returns-in_err-report_choice
returns-in_err-report_choice c = report_refused _ _ _ _ _ c.in_ok-guard.ensures _ _ _ _ c.size-n.ensures c.variables_at-x.ensures c.trust_at.ensures c.report_choice.ensures.plan _ _ c.from_residual-in_err-report_choice.ensures.1 c.in_err-report_choice.was

pub returns-in-Adopt : goal.returns-in-Adopt
unfolding reported_plan
returns-in-Adopt c = reported _ _ _ _ _ c.in_ok-guard.ensures _ _ _ _ c.size-n.ensures c.variables_at-x.ensures c.trust_at.ensures c.report_choice.ensures.plan _ _ _ c.adopt_view.ensures (rw (c.in_ok-report_choice.was, c.in-Adopt.is, c.size-n.ensures, c.variables_at-x.ensures))

pub returns-in-ProposeAfter : goal.returns-in-ProposeAfter
returns-in-ProposeAfter c = proposed _ _ _ _ _ c.in_ok-guard.ensures _ _ _ _ c.size-n.ensures c.variables_at-x.ensures c.trust_at.ensures c.report_choice.ensures.plan _ _ _ c.after.ensures (rw c.in-ProposeAfter.is at c.in_ok-report_choice.was) c.report_choice.ensures.fits c.propose_view.ensures
