-- `view::has`: the bit is read where the number is one of 1 to 8.
use Rattle.view.specs.View.{has}
use Rattle.view.proofs.has.Goals as goal

pub returns-then-is_one_of : goal.returns-then-is_one_of
unfolding has
returns-then-is_one_of c = simp (← c.is_one_of.ensures, c.if-is_one_of.true)

pub returns-else-is_one_of : goal.returns-else-is_one_of
unfolding has
returns-else-is_one_of c = simp (← c.is_one_of.ensures, c.if-is_one_of.false)
