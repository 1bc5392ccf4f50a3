-- `system::fresh_system` is its definition.
use Rattle.system.specs.Fresh.{fresh_system}
use Rattle.system.proofs.fresh_system.Goals as goal

pub returns : goal.returns
unfolding fresh_system
returns c = simp (c.empty.ensures, c.fresh_process.ensures)
