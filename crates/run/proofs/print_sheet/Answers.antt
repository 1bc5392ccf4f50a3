-- `run::print_sheet`: the buffer has room for the whole output.
use borrow.Author.Rules.{rules}
use mathlib.Core.Path.{◌≡◌}
use lib.ListN.{length}
use Rattle.print.proofs.Laws.{printed_whole}
use Rattle.run.specs.Output.{output_limit}
use Rattle.run.proofs.Bounds.{output-length}
use Rattle.run.proofs.print_sheet.Goals as goal

pub returns : goal.returns
returns c =
    let room : length c.args.out.now ≡ output_limit = search rules in
    printed_whole _ _ _ _ _ room (output-length c.args.sheet.now) c.run_sheet.ensures
