-- `effects::doubt`: those that are still to come are suspected from here on.
use mathlib.Core.Path.{◌≡◌}
use Rattle.std.specs.Prelude.{fold}
use Rattle.system.specs.System.{variables_at}
use Rattle.image.specs.Image.{system_in}
use Rattle.effects.proofs.Laws.{Keeps}
use Rattle.effects.specs.Named.{members_of, suspecting}
use Rattle.effects.proofs.doubt.Given as goal

abbrev pub invariant-loop-q : goal.invariant-loop-q
invariant-loop-q l =
    (goal.iterator-loop-q).can_next l.q-iterator
    × (goal.iterator-loop-q).is_finite l.q-iterator
    × (l.old ≡ (variables_at (system_in l.image) l.p.0).view)
    × (fold (λ s k. suspecting s l.p.0 k) (system_in l.image) (members_of l.q-iterator.rest)
    ≡ fold (λ s k. suspecting s l.p.0 k) (system_in l.initial.image) (members_of l.suspects))
    × Keeps l.initial.image l.image
