-- `view::first_members`, process by process.
use Rattle.std.proofs.Common.{refl, arith, ap, ◌∙◌}
use Rattle.view.specs.Logic.{each_up_to}
use Rattle.view.specs.View.{joined, first_members}
use Rattle.view.proofs.Laws.{each_next, all_done}
use Rattle.view.proofs.first_of.Goals as goal

pub loop-i-init : goal.loop-i-init
unfolding each_up_to
loop-i-init c = refl

pub loop-i-preserved : goal.loop-i-preserved
loop-i-preserved c = c.join-set.ensures ∙ ap (joined _ _ _) c.loop-i.invariant ∙ each_next _ _ _ c.loop-i.auto.i

pub returns : goal.returns
unfolding first_members
returns c = rw (← all_done _ 8 (omega arith) c.loop-i-test.false) c.loop-i.invariant
