-- `effects::broadcast`: those that are still to come are told from here on.
use mathlib.Core.Path.{◌∙◌}
use Rattle.effects.proofs.Named.{all_told}
use Rattle.effects.proofs.broadcast.Goals as goal

pub returns : goal.returns
returns c = record { system = rw c.in-None.ensures.steps.0 at c.loop-p.invariant.2 ∙ all_told _ _ _ _; kept = c.loop-p.invariant.3 }
