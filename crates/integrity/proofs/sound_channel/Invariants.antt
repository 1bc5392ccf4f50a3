-- `integrity::sound_channel`: before message i has its turn, the flag says whether those before it are sound.
use Rattle.std.proofs.Common.{◌≡◌, ◌≤◌, ◌+◌, ◌-◌}
use Rattle.system.specs.System.{channel_at}
use Rattle.image.specs.Image.{system_in}
use Rattle.integrity.proofs.Laws.{sound_so_far}
use Rattle.integrity.proofs.sound_channel.Given as goal

abbrev pub invariant-loop-i : goal.invariant-loop-i
invariant-loop-i l =
    record {
      within : l.i ≤ l.len + 1;
      so_far : l.ok ≡ sound_so_far l.n l.crashed l.q.0 l.p.0 (channel_at (system_in l.image) l.q.0 l.p.0) (l.i - 1);
    }
