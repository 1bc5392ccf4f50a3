-- `integrity::sound`: before process i has its turn, the flag says whether those before it and the channels that they send on are sound.
use Rattle.std.proofs.Common.{◌≡◌, ◌≤◌, ◌+◌, ◌-◌}
use Rattle.view.specs.Logic.{all_up_to}
use Rattle.sound.proofs.Laws.{both_at}
use Rattle.image.specs.Image.{system_in}
use Rattle.integrity.proofs.sound.Given as goal

abbrev pub invariant-loop-i : goal.invariant-loop-i
invariant-loop-i l = record { within : l.i ≤ l.n + 1; so_far : l.ok ≡ all_up_to (l.i - 1) (both_at (system_in l.image)) }
