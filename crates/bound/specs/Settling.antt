-- S-4, what is true of a settling run on a system reached from a fresh one: it never uses its budget up.
use Rattle.std.specs.Prelude.{ℕ, ◌≡◌, List}
use Rattle.system.specs.Fresh.{fresh_of}
use Rattle.events.specs.Event.{Event, ran}
use Rattle.settling.specs.declared.Ending.TheVariants.{Budget}
use Rattle.settling.specs.Settle.{settled, settling_budget}

-- "at most 124 times n times n takes and answers are ever done", so that 7,936 are enough
abbrev pub NeverBudget : ℕ → List Event → Type 0
NeverBudget n es = (settled settling_budget (ran (fresh_of n).system es)).ending ≡ Budget → ⊥
