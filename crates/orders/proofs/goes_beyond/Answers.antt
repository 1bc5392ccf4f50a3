-- `orders::goes_beyond`: each of the processes.
use borrow.Author.Rules.{rules}
use mathlib.Core.Path.{ap}
use mathlib.Core.Bool.{not}
use Rattle.view.proofs.Chains.{all_tested}
use Rattle.image.specs.Image.{system_in}
use Rattle.orders.specs.Orders.{all_old_at, goes_beyond}
use Rattle.orders.proofs.goes_beyond.Goals as goal

pub returns : goal.returns
unfolding goes_beyond
returns c =
    ap not (all_tested _ _ _ _ (all_old_at (system_in c.args.image.now)) c.new.ensures.start c.new.ensures.end c.new.ensures.exhausted c.all.ensures.ran (λ b x q k. search rules))
