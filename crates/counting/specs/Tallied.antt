-- What the program answers of a step, and what it counts before the step is tried.
use Rattle.std.specs.Prelude.{◌≡◌, Result, Ok, Err}
use Rattle.tallies.specs.declared.Tally.{Tally}
use Rattle.tallies.specs.Tally.{no_tally}
use Rattle.system.specs.declared.System.{System}
use Rattle.system.specs.declared.refusal.Refusal.{Refusal}
use Rattle.system.specs.Refusal.{number}
use Rattle.plan.specs.declared.Step.{Step}
use Rattle.plan.specs.Cut.{cut_by}
use Rattle.plan.specs.Scope.{scope_of}
use Rattle.step.specs.Step.{plan_of, taken_off}
use Rattle.events.specs.Counts.{plan_tally}

-- what an answer counts: a step that is refused counts nothing
abbrev pub counted : Result Tally Refusal → Tally
counted (Ok t) = t
counted (Err r) = no_tally

-- what step o counts if it is done to system s; or how its plan is refused
abbrev pub Counts : System → Step → Result Tally Refusal → Type 0
Counts s o (Ok t) = t ≡ plan_tally (taken_off s (scope_of o.action)) (scope_of o.action) (cut_by o.cut (plan_of s o.action))
Counts s o (Err r) = (cut_by o.cut (plan_of s o.action)).refusal ≡ number r
