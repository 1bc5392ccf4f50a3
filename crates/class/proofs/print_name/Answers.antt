-- `class::print_name`: the line of what came of the name, and the tally with what that adds.
use Rattle.class.specs.Class.{lined_as, lined}
use Rattle.class.proofs.print_name.Goals as goal

pub returns-clause-line : goal.returns-clause-line
unfolding lined lined_as
returns-clause-line c = rw (← c.find-finding.ensures) c.print_line-end.ensures

pub returns-clause-total : goal.returns-clause-total
unfolding lined lined_as
returns-clause-total c = rw (← c.find-finding.ensures, ← c.adds.ensures) c.add_assign.ensures.after
