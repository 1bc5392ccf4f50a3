-- `integrity::sound_history`: entry by entry.
use Rattle.std.proofs.Common.{true, refl, arith}
use Rattle.view.specs.Logic.{all_up_to}
use Rattle.view.proofs.Laws.{tested_turn, tested_all}
use Rattle.sound.specs.Sound.{sound_history}
use Rattle.integrity.proofs.sound_history.Goals as goal

pub loop-i-init : goal.loop-i-init
unfolding all_up_to
loop-i-init c = refl

pub loop-i-preserved : goal.loop-i-preserved
loop-i-preserved c =
    tested_turn true _ _ 32 _ c.loop-i.invariant _ c.loop-i.auto.i (rw c.entry_at.ensures at c.within-ok.ensures)

pub returns : goal.returns
unfolding sound_history
returns c = rw (← tested_all true _ _ 32 _ c.loop-i.invariant (omega arith) c.loop-i-test.false, c.entry_at-2.ensures)
