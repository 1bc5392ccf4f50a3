-- `print::Page::text`: the bytes before this one are typed, and then this one.
use Rattle.print.proofs.Typing.{next_byte}
use Rattle.print.proofs.Page.text.Goals as goal

pub loop-b-preserved : goal.loop-b-preserved
loop-b-preserved c = next_byte _ _ _ _ _ c.loop-b-test.true c.loop-b.invariant c.byte.ensures
