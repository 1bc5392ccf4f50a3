-- `integrity::sound_sender`: the process, and channel by channel.
use Rattle.std.proofs.Common.{arith, sym}
use mathlib.Core.Bool.{and-true}
use Rattle.view.specs.Logic.{all_up_to}
use Rattle.view.proofs.Laws.{tested_turn, tested_last, tested_all}
use Rattle.sound.specs.Sound.{sound_process_at, sound_channel_at, sound_channels_from}
use Rattle.integrity.proofs.sound_sender.Goals as goal

pub loop-i-init : goal.loop-i-init
unfolding all_up_to
loop-i-init c = record { within = omega arith; so_far = rw (c.sound_process-ok.ensures, c.size-n.ensures) (sym (and-true _)) }

pub loop-i-preserved : goal.loop-i-preserved
unfolding sound_channel_at
loop-i-preserved c =
    record {
      within = omega arith;
      so_far = tested_turn _ _ _ c.size-n.result _ c.loop-i.invariant.so_far _ c.loop-i.auto.i (rw c.size-n.ensures at c.sound_channel_at-ok.ensures);
    }

pub returns : goal.returns
unfolding sound_process_at sound_channels_from
returns c =
    rw c.size-n.ensures at (tested_all _ _ _ _ _ c.loop-i.invariant.so_far c.loop-i.invariant.within c.loop-i-test.false)

pub returns-2 : goal.returns-2
unfolding sound_process_at sound_channel_at sound_channels_from
returns-2 c =
    rw c.size-n.ensures at
    (tested_last _ _ _ c.size-n.result _ c.loop-i.invariant.so_far _ c.loop-i.auto.i (rw c.size-n.ensures at c.sound_channel_at-ok.ensures) c.loop-i-test.true (omega arith))
