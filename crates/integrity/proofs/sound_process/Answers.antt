-- `integrity::sound_process`: the variables and the history, and record by record.
use Rattle.std.proofs.Common.{arith, sym}
use mathlib.Core.Bool.{and-true}
use Rattle.view.specs.Logic.{all_up_to}
use Rattle.view.proofs.Laws.{tested_turn, tested_last, tested_all}
use Rattle.sound.specs.Sound.{sound_process}
use Rattle.integrity.proofs.sound_process.Goals as goal

pub loop-i-init : goal.loop-i-init
unfolding all_up_to
loop-i-init c =
    record { within = omega arith; so_far = rw (c.sound_history.ensures, c.sound_variables.ensures, c.variables_at.ensures) (sym (and-true _)) }

pub loop-i-preserved : goal.loop-i-preserved
loop-i-preserved c =
    record {
      within = omega arith;
      so_far = tested_turn _ _ _ c.args.n _ c.loop-i.invariant.so_far _ c.loop-i.auto.i (rw c.pending_at.ensures at c.sound_pending-ok.ensures);
    }

pub returns : goal.returns
unfolding sound_process
returns c = tested_all _ _ _ _ _ c.loop-i.invariant.so_far c.loop-i.invariant.within c.loop-i-test.false

pub returns-2 : goal.returns-2
unfolding sound_process
returns-2 c =
    tested_last _ _ _ _ _ c.loop-i.invariant.so_far _ c.loop-i.auto.i (rw c.pending_at.ensures at c.sound_pending-ok.ensures) c.loop-i-test.true (omega arith)
