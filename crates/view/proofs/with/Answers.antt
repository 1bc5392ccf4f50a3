-- `view::with`: the bit is set where the number is one of 1 to 8.
use Rattle.std.proofs.Common.{arith, ◌<◌, ◌-◌}
use Rattle.view.specs.Logic.{pick}
use Rattle.view.specs.View.{with}
use Rattle.view.proofs.Laws.{one_of}
use Rattle.view.proofs.Views.{one_bit}
use Rattle.view.proofs.with.Goals as goal

pub returns-then-is_one_of : goal.returns-then-is_one_of
unfolding with pick
returns-then-is_one_of c =
    let low : c.args.p.0 - 1 < 8 = omega (arith, one_of 8 c.args.p.0 (simp (← c.is_one_of.ensures, c.if-is_one_of.true))) in
    simp (← c.is_one_of.ensures, c.if-is_one_of.true, one_bit _ low)

pub returns-else-is_one_of : goal.returns-else-is_one_of
unfolding with pick
returns-else-is_one_of c = simp (← c.is_one_of.ensures, c.if-is_one_of.false)
