-- `orders::count_runs`: by the refusals.
use Rattle.std.proofs.Common.{refl, sym, ◌∙◌}
use Rattle.view.specs.Logic.{pick}
use Rattle.orders.specs.Orders.{walked}
use Rattle.orders.proofs.Moves.{walkable, none_too_deep, some_too_deep}
use Rattle.orders.proofs.count_runs.Goals as goal

pub walk-requires : goal.walk-requires
walk-requires c = walkable _ _ (sym c.is_one_of.ensures ∙ c.if-not-is_one_of.false) (none_too_deep c.args.n c.args.depth c.if-n-depth.false)

pub returns-then-not-is_one_of : goal.returns-then-not-is_one_of
unfolding walked pick
returns-then-not-is_one_of c = rw (← c.is_one_of.ensures, c.if-not-is_one_of.true) refl

pub returns-then-n-depth : goal.returns-then-n-depth
unfolding walked pick
returns-then-n-depth c = rw (← c.is_one_of.ensures, c.if-not-is_one_of.false, some_too_deep c.args.n c.args.depth c.if-n-depth.true) refl

pub returns-else-n-depth : goal.returns-else-n-depth
unfolding walked pick
returns-else-n-depth c = rw (← c.is_one_of.ensures, c.if-not-is_one_of.false, none_too_deep c.args.n c.args.depth c.if-n-depth.false, c.walk.ensures) refl
