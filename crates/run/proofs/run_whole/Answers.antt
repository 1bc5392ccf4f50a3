-- `run::run_whole`: by how the sheet begins.
use Rattle.std.proofs.Common.{sym, ◌∙◌}
use Rattle.view.specs.Logic.{pick}
use Rattle.print.specs.Text.{bytes, digits, decimal}
use Rattle.print.specs.Print.{numbered_line}
use Rattle.print.proofs.Typing.{typed_on_nil}
use Rattle.run.specs.Output.{tallied_by, started_by}
use Rattle.run.proofs.Laws.{nothing_yet, output_long, output_none, output-begins, tally_long, tally_none, tally_begins, started_size}
use Rattle.run.proofs.run_whole.Goals as goal

pub returns-then-sheet-gt-SHEET_LIMIT : goal.returns-then-sheet-gt-SHEET_LIMIT
unfolding bytes numbered_line digits decimal pick
returns-then-sheet-gt-SHEET_LIMIT c =
    let long = c.if-sheet-gt-SHEET_LIMIT.true in
    record { printed = rw (output_long _ long) (rw c.from.ensures at c.numbered.ensures); counted = λ on. nothing_yet c.default.result c.default.ensures ∙ sym (tally_long _ long) }

pub returns-in_default : goal.returns-in_default
returns-in_default c =
    let short = c.if-sheet-gt-SHEET_LIMIT.false in
    let none = rw (c.new-lines.ensures.0, c.new-lines.ensures.1) at c.in_default.ensures.steps.0.0 in
    record { printed = rw (output_none _ short none) (sym (typed_on_nil _)); counted = λ on. nothing_yet c.default-in_default.result c.default-in_default.ensures ∙ sym (tally_none _ short none) }

pub fresh-requires : goal.fresh-requires
fresh-requires c = started_size _ _ _ c.parse_first.ensures c.in-Ok.is

pub run_lines-requires : goal.run_lines-requires
run_lines-requires c = rw (c.in-Some.ensures.steps.1, c.new-lines.ensures.0) c.if-sheet-gt-SHEET_LIMIT.false

pub returns-in-Ok : goal.returns-in-Ok
unfolding started_by tallied_by
returns-in-Ok c =
    let short = c.if-sheet-gt-SHEET_LIMIT.false in
    let first = rw (c.new-lines.ensures.0, c.new-lines.ensures.1) at c.in-Some.ensures.steps.0 in
    record {
      printed = rw (output-begins _ _ _ _ short first c.parse_first.ensures, c.in-Ok.is, ← c.fresh.ensures) c.run_lines.ensures.printed;
      counted = λ on. rw (tally_begins _ _ _ _ short first c.parse_first.ensures, c.in-Ok.is, ← c.fresh.ensures) (c.run_lines.ensures.counted on);
    }

pub returns-in-Err : goal.returns-in-Err
unfolding tallied_by
returns-in-Err c =
    let short = c.if-sheet-gt-SHEET_LIMIT.false in
    let first = rw (c.new-lines.ensures.0, c.new-lines.ensures.1) at c.in-Some.ensures.steps.0 in
    record {
      printed = rw (output-begins _ _ _ _ short first c.parse_first.ensures, c.in-Err.is) c.all_bad.ensures;
      counted = λ on. rw (tally_begins _ _ _ _ short first c.parse_first.ensures, c.in-Err.is) (nothing_yet c.default-in-Err.result c.default-in-Err.ensures);
    }
