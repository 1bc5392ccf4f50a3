-- `integrity::sound_history`: before entry i has its turn, the flag says whether those before it are within n.
use Rattle.std.proofs.Common.{◌≡◌, ◌-◌}
use Rattle.view.specs.Logic.{all_up_to}
use Rattle.view.specs.View.{within}
use Rattle.system.specs.Process.{entry_at}
use Rattle.system.specs.System.{process_at}
use Rattle.image.specs.Image.{system_in}
use Rattle.integrity.proofs.sound_history.Given as goal

abbrev pub invariant-loop-i : goal.invariant-loop-i
invariant-loop-i l = l.ok ≡ all_up_to (l.i - 1) (λ k. within l.n (entry_at (process_at (system_in l.image) l.p.0).history k))
