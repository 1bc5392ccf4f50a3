-- `view::join`: by the test.
use Rattle.std.proofs.Common.{rules}
use Rattle.view.specs.Logic.{pick}
use Rattle.view.specs.View.{joined}
use Rattle.view.proofs.join.Goals as goal
use Rattle.view.proofs.join.Goals.{else-has-via-then-has+else-count-m, else-has-via-else-has}

pub returns-then-count-m : goal.returns-then-count-m
unfolding joined pick
returns-then-count-m c = search (rules, c.with.ensures, c.has.ensures, c.count.ensures)

pub returns-else-has : goal.returns-else-has
unfolding joined pick
returns-else-has c =
    elim c.else-has.branch [
      | else-has-via-then-has+else-count-m w ↦ search (rules, c.has.ensures, w.count.ensures)
      | else-has-via-else-has w ↦ search (rules, c.has.ensures)
    ]
