-- `effects::broadcast`: those that are still to come are told from here on.
use mathlib.Core.Path.{◌≡◌}
use Rattle.std.specs.Prelude.{fold}
use Rattle.system.specs.System.{sent}
use Rattle.image.specs.Image.{system_in}
use Rattle.effects.proofs.Laws.{Keeps}
use Rattle.effects.specs.Named.{members_of}
use Rattle.effects.proofs.broadcast.Given as goal

abbrev pub invariant-loop-p : goal.invariant-loop-p
invariant-loop-p l =
    (goal.iterator-loop-p).can_next l.p-iterator
    × (goal.iterator-loop-p).is_finite l.p-iterator
    × (fold (λ s k. sent s l.q.0 k l.m) (system_in l.image) (members_of l.p-iterator.rest)
    ≡ fold (λ s k. sent s l.q.0 k l.m) (system_in l.initial.image) (members_of l.to))
    × Keeps l.initial.image l.image
