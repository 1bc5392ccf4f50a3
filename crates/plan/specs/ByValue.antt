-- The plans of the program, which have no refusal, as the definitions have them.
use Rattle.std.specs.Prelude.{Result, Ok, Err}
use Rattle.system.specs.declared.refusal.Refusal.{Refusal}
use Rattle.system.specs.Refusal.{number}
use Rattle.system.specs.declared.Variables.{Variables}
use Rattle.plan.specs.declared.Plan.{Plan}
use Rattle.plan.specs.Plan.{Planned, plan, refusing}

abbrev pub planned : Plan → Planned
planned a = plan 0 a.change a.stops a.addressees a.message a.suspects

-- a plan, or the refusal of one to a process whose variables are x
abbrev pub planned_of : Variables → Result Plan Refusal → Planned
planned_of x (Ok a) = planned a
planned_of x (Err r) = refusing (number r) x
