-- `print::Page::history`: the entries before index i are typed, and then that entry.
use mathlib.Core.Path.{◌≡◌}
use native.Mathlib.Omega.{arith}
use Rattle.print.specs.Print.{entry_text_at, history_text}
use Rattle.print.proofs.Typing.{first_text, next_text}
use Rattle.print.proofs.Page.history.Goals as goal

pub loop-i-init : goal.loop-i-init
loop-i-init c = first_text _ _ _ (omega arith)

pub loop-i-preserved : goal.loop-i-preserved
unfolding entry_text_at
loop-i-preserved c =
    next_text _ _ _ c.loop-i.i _ (entry_text_at _) (omega arith) (omega arith) c.loop-i.invariant (rw (← c.entry_at.ensures) c.entry.ensures)

pub returns : goal.returns
unfolding history_text
returns c = let end : c.loop-i.i ≡ 33 = omega arith in rw end at c.loop-i.invariant
