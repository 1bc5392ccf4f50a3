-- `effects::doubt`: those that are still to come are suspected from here on.
use mathlib.Core.Path.{◌∙◌}
use Rattle.effects.proofs.Named.{all_doubted}
use Rattle.effects.proofs.doubt.Goals as goal

pub returns : goal.returns
returns c = record { system = rw c.in-None.ensures.steps.0 at c.loop-q.invariant.3 ∙ all_doubted _ _ _; kept = c.loop-q.invariant.4 }
