-- `engine::do_crash`: by the guard, and by the cut.
use Rattle.plan.specs.Scope.{scope_of}
use Rattle.engine.proofs.Given.{turned_away}
use Rattle.engine.proofs.do_crash.Goals as goal

pub returns-in_err-guard : goal.returns-in_err-guard
unfolding scope_of
returns-in_err-guard c = turned_away _ _ _ _ c.from_residual.ensures.1 c.in_err-guard.ensures
