-- `view::everyone`: the n lowest bits.
use borrow.Author.Tests.{le-leb, lt-leb}
use lib.Pow.{pow_pos}
use Rattle.view.specs.Logic.{pick}
use Rattle.view.specs.View.{everyone}
use Rattle.view.proofs.Views.{one_bit}
use Rattle.view.proofs.everyone.Goals as goal

pub returns-then-n-ge8 : goal.returns-then-n-ge8
unfolding everyone pick
returns-then-n-ge8 c = simp (le-leb _ _ c.if-n-ge8.true)

pub overflow_sub-result : goal.overflow_sub-result
overflow_sub-result c = rw (one_bit _ c.if-n-ge8.false) (pow_pos _)

pub returns-else-n-ge8 : goal.returns-else-n-ge8
unfolding everyone pick
returns-else-n-ge8 c = simp (lt-leb _ _ c.if-n-ge8.false, one_bit _ c.if-n-ge8.false)
