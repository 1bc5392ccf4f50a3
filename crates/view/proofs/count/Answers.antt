-- `view::count`: the checker counts the bits of each of the 256 views.
use borrow.Author.Rules.{rules}
use Rattle.view.proofs.Sets.{count_ones, few_ones}
use Rattle.view.proofs.count.Goals as goal

pub overflow_cast-result : goal.overflow_cast-result
overflow_cast-result c = let small = few_ones c.args.view c.ranges.view.fits in search rules

pub returns : goal.returns
returns c = count_ones _ c.ranges.view.fits
