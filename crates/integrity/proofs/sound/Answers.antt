-- `integrity::sound`: process by process.
use Rattle.std.proofs.Common.{◌≤◌, true, refl, arith, le-leb}
use Rattle.image.specs.Image.{system_in}
use Rattle.view.specs.Logic.{all_up_to}
use Rattle.view.proofs.Laws.{tested_turn, tested_last}
use Rattle.sound.proofs.Laws.{by_process}
use Rattle.integrity.proofs.sound.Goals as goal

pub loop-i-init : goal.loop-i-init
unfolding all_up_to
loop-i-init c = record { within = omega arith; so_far = refl }

pub loop-i-preserved : goal.loop-i-preserved
loop-i-preserved c =
    record {
      within = omega arith;
      so_far = tested_turn true _ _ c.size-n.result _ c.loop-i.invariant.so_far _ c.loop-i.auto.i c.sound_sender-ok.ensures;
    }

pub returns-else-n-gt8-2 : goal.returns-else-n-gt8-2
returns-else-n-gt8-2 c =
    let n = c.size-n.ensures in
    let low : 1 ≤ (system_in c.args.image.now).n = omega arith in
    let high : (system_in c.args.image.now).n ≤ 8 = omega arith in
    rw (by_process (system_in c.args.image.now), le-leb 1 _ low, le-leb _ 8 high)
    (rw n at (tested_last true _ _ c.size-n.result _ c.loop-i.invariant.so_far _ c.loop-i.auto.i c.sound_sender-ok.ensures c.loop-i-test.true (omega arith)))
