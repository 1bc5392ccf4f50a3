-- `print::Page::member`: the digit of a process that the view names.
use mathlib.Core.Path.{sym, ◌∙◌}
use native.Mathlib.Omega.{arith}
use Rattle.view.specs.Logic.{pick}
use Rattle.print.specs.Text.{member_text}
use Rattle.print.proofs.Laws.{small_member}
use Rattle.print.proofs.Typing.{typed_on_nil}
use Rattle.print.proofs.Page.member.Goals as goal

pub overflow_add-p : goal.overflow_add-p
overflow_add-p c = let a = c.args in
    omega (arith, small_member a.view a.p.0 (sym c.has.ensures ∙ c.if-has.true))

pub returns-then-has : goal.returns-then-has
unfolding member_text pick
returns-then-has c = rw (← c.has.ensures, c.if-has.true) c.byte.ensures

pub returns-else-has : goal.returns-else-has
unfolding member_text pick
returns-else-has c = rw (← c.has.ensures, c.if-has.false) (sym (typed_on_nil _))
