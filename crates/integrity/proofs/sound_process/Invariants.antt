-- `integrity::sound_process`: before process i has its turn, the flag says whether what is recorded from those before it is sound.
use Rattle.std.proofs.Common.{◌≡◌, ◌≤◌, ◌+◌, ◌-◌, ◌&&◌}
use Rattle.view.specs.Logic.{all_up_to}
use Rattle.system.specs.Process.{pending_at}
use Rattle.system.specs.System.{process_at}
use Rattle.sound.specs.Sound.{sound_variables, sound_history, sound_pending}
use Rattle.image.specs.Image.{system_in}
use Rattle.integrity.proofs.sound_process.Given as goal

abbrev pub invariant-loop-i : goal.invariant-loop-i
invariant-loop-i l =
    let x = process_at (system_in l.image) l.p.0 in
    record {
      within : l.i ≤ l.n + 1;
      so_far : l.ok ≡ (sound_variables l.n l.p.0 x.variables && sound_history l.n x.history && all_up_to (l.i - 1) (λ q. sound_pending l.n q l.p.0 (pending_at x q)));
    }
