-- `lines::line_length`: the place of the first line feed, or the text's length.
use Rattle.std.proofs.Common.{◌==◌, rules, tests}
use Rattle.std.proofs.lemmas.Iterator.{YieldsList-from_slice}
use Rattle.std.proofs.lemmas.Iterator.Search.{position_from_yields_List}
use Rattle.sheet.proofs.Laws.{line_position}
use Rattle.sheet.proofs.lines.line_length.Goals as goal

pub returns : goal.returns
returns c =
    let text = c.args.text.now in
    let found = position_from_yields_List (λ b. b == 10) _ _ c.position.result c.position.ensures.ran (YieldsList-from_slice text (cc)) (λ x b q k. search (rules, tests)) in
    rw (c.unwrap_or.ensures, found) (line_position text)
