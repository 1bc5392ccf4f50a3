-- `Machine::line`: a bad line prints its column and changes nothing.
use Rattle.std.proofs.Common.{rules}
use Rattle.sheet.specs.Parse.{meaning}
use Rattle.view.specs.Logic.{at}
use Rattle.tallies.specs.Tally.{no_tally}
use Rattle.run.specs.Output.{bad_line, line_done}
use Rattle.run.proofs.lines.Machine.line.Goals as goal

pub returns-in-Err : goal.returns-in-Err
unfolding line_done bad_line meaning at no_tally
returns-in-Err c =
    let e = c.in-Err.is in
    record { text = rw e c.column.ensures; system = rw e; tally = λ on. rw e (search rules) }
