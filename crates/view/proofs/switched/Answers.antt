-- `view::switched`: by the test.
use Rattle.view.specs.Logic.{pick}
use Rattle.view.specs.View.{switched}
use Rattle.view.proofs.switched.Goals as goal

pub returns-then-on : goal.returns-then-on
unfolding switched pick
returns-then-on c = simp (c.if-on.true, c.with.ensures)

pub returns-else-on : goal.returns-else-on
unfolding switched pick
returns-else-on c = simp (c.if-on.false, c.minus.ensures, c.with-else-on.ensures)
