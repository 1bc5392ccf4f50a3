-- `class::print_line`: the buffer has room for the whole line.
use borrow.Author.Rules.{rules}
use mathlib.Core.Path.{◌≡◌}
use lib.ListN.{length}
use Rattle.print.proofs.Typing.{stands_first}
use Rattle.class.specs.Class.{line_limit}
use Rattle.class.proofs.Bounds.{line_length_lem}
use Rattle.class.proofs.print_line.Goals as goal

pub returns : goal.returns
returns c =
    let room : length c.args.out.now ≡ line_limit = search rules in
    stands_first _ _ _ _ line_limit _ c.new-page.ensures room (line_length_lem c.args.name.now _) c.put_line.ensures c.place.ensures
