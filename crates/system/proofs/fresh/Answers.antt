-- `system::fresh`: by the test of n.
use Rattle.std.proofs.Common.{rules}
use Rattle.view.specs.Logic.{pick}
use Rattle.system.specs.Fresh.{fresh_of}
use Rattle.system.proofs.fresh.Goals as goal
use Rattle.system.proofs.fresh.Goals.{else-n-ge1-via-then-n-ge1+else-n-le8, else-n-ge1-via-else-n-ge1}

pub returns-then-n-le8 : goal.returns-then-n-le8
unfolding fresh_of pick
returns-then-n-le8 c = search rules

pub returns-else-n-ge1 : goal.returns-else-n-ge1
unfolding fresh_of pick
returns-else-n-ge1 c =
    elim c.else-n-ge1.branch [
      | else-n-ge1-via-then-n-ge1+else-n-le8 w ↦ search rules
      | else-n-ge1-via-else-n-ge1 w ↦ search rules
    ]
