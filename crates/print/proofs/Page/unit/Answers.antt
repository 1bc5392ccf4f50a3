-- `print::Page::unit`: the line is typed part by part.
use Rattle.print.specs.Text.{bytes}
use Rattle.print.specs.Print.{unit_line}
use Rattle.print.proofs.Typing.{typed_in_turn}
use Rattle.print.proofs.Page.unit.Goals as goal

pub returns : goal.returns
unfolding unit_line bytes
returns c =
    let t2 = typed_in_turn _ _ _ _ _ c.text.ensures c.decimal.ensures in
    let t3 = typed_in_turn _ _ _ _ _ t2 c.state.ensures in
    let t4 = typed_in_turn _ _ _ _ _ t3 c.text-2.ensures in
    let t5 = typed_in_turn _ _ _ _ _ t4 c.decimal-2.ensures in
    let t6 = typed_in_turn _ _ _ _ _ t5 c.history.ensures in
    rw (← c.variables_at-x.ensures) (typed_in_turn _ _ _ _ _ t6 c.text-3.ensures)
