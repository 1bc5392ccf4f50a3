-- `counting::plan_of`: by the kind of the step.
use Rattle.plan.specs.Scope.{scope_of}
use Rattle.step.specs.Step.{plan_of}
use Rattle.counting.proofs.plan_of.Goals as goal

pub returns-in-Report : goal.returns-in-Report
unfolding plan_of scope_of
returns-in-Report c = rw c.in-Report.is (simp (c.variables_at-x.ensures, c.size.ensures, c.trust_at.ensures) at c.report_plan.ensures)

pub returns-in-Receive : goal.returns-in-Receive
unfolding plan_of scope_of
returns-in-Receive c = rw c.in-Receive.is (simp (c.variables_at.ensures, c.front_at.ensures) at c.receive_plan.ensures)

pub returns-in-Respond : goal.returns-in-Respond
unfolding plan_of scope_of
returns-in-Respond c = rw c.in-Respond.is (simp (c.variables_at-in-Respond.ensures, c.pending_at.ensures) at c.respond_plan.ensures)
