-- `orders::all_old_at`: each of the indices.
use borrow.Author.Rules.{rules}
use Rattle.view.proofs.Chains.{all_tested}
use Rattle.image.specs.Image.{system_in}
use Rattle.orders.specs.Orders.{old_at, all_old_at}
use Rattle.orders.proofs.all_old_at.Goals as goal

pub returns : goal.returns
unfolding all_old_at
returns c =
    all_tested _ _ _ _ (old_at (system_in c.args.image.now) c.args.p.0) c.new.ensures.start c.new.ensures.end c.new.ensures.exhausted c.all.ensures.ran (λ b x q k. search rules)
