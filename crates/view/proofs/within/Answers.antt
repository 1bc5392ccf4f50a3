-- `view::within`: what is left of the byte past bit n.
use Rattle.std.proofs.Common.{arith}
use borrow.Author.Tests.{le-leb}
use Rattle.view.proofs.Views.{shifted_out, eight_within}
use Rattle.view.proofs.within.Goals as goal

pub returns-then-n-ge8 : goal.returns-then-n-ge8
returns-then-n-ge8 c = grind (arith, le-leb, eight_within)

pub returns-else-n-ge8 : goal.returns-else-n-ge8
returns-else-n-ge8 c = shifted_out _ _ (omega arith) c.ranges.view.fits
