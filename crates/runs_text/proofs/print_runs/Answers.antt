-- `runs_text::print_runs`: the buffer has room for the whole output.
use borrow.Author.Rules.{rules}
use mathlib.Core.Path.{◌≡◌}
use lib.ListN.{length}
use Rattle.print.proofs.Typing.{stands_first}
use Rattle.runs_text.specs.RunsText.{runs_output, answer_limit}
use Rattle.runs_text.proofs.Laws.{walk_length}
use Rattle.runs_text.proofs.print_runs.Goals as goal

pub returns : goal.returns
unfolding runs_output
returns c =
    let room : length c.args.out.now ≡ answer_limit = search rules in
    rw (← c.walk_for.ensures) (stands_first _ _ _ _ answer_limit _ c.new-page.ensures room (walk_length _) c.put_walk.ensures c.place.ensures)
