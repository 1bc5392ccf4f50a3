-- `integrity::sound_sender`: before process i has its turn, the flag says whether the channels to those before it are sound.
use Rattle.std.proofs.Common.{◌≡◌, ◌≤◌, ◌+◌, ◌-◌, ◌&&◌}
use Rattle.view.specs.Logic.{all_up_to}
use Rattle.system.specs.System.{process_at}
use Rattle.sound.specs.Sound.{sound_process, sound_channel_at}
use Rattle.image.specs.Image.{system_in}
use Rattle.integrity.proofs.sound_sender.Given as goal

abbrev pub invariant-loop-i : goal.invariant-loop-i
invariant-loop-i l =
    let s = system_in l.image in
    record {
      within : l.i ≤ l.n + 1;
      so_far : l.ok ≡ (sound_process s.n l.q.0 (process_at s l.q.0) && all_up_to (l.i - 1) (sound_channel_at s l.q.0));
    }
