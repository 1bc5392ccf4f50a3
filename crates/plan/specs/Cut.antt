-- A step is an action, whole or cut. S-2: "Mains also fails inside a step, after the third message of five."
use Rattle.std.specs.Prelude.{ℕ, true, false, Result, Ok, Err, ltb, eqb}
use Rattle.view.specs.Logic.{unless}
use Rattle.view.specs.View.{count_of, first_members}
use Rattle.plan.specs.declared.Action.{Action}
use Rattle.plan.specs.declared.Cut.{Cut}
use Rattle.plan.specs.declared.Cut.TheVariants.{Whole, After}
use Rattle.plan.specs.declared.Step.{Step}
use Rattle.plan.specs.declared.Reach.{Reach}
use Rattle.system.specs.declared.refusal.Refusal.{Refusal}
use Rattle.system.specs.declared.refusal.Refusal.TheVariants.{CutTooLate}
use Rattle.system.specs.Refusal.{number}
use Rattle.plan.specs.Plan.{Planned, plan, refusing}

abbrev pub whole : Action → Step
whole o = record { action = o; cut = Whole }

abbrev pub cut_after : Action → ℕ → Step
cut_after o k = record { action = o; cut = After k }

-- To whom the message of a step goes, of these processes: to all; or to the first k, and then the process stops. "A report, take or answer
-- may now be cut after its first k messages, in rising order of addressee, k at least 0 and below the number it would send." Those to
-- stopped processes count. Refusal 12: "cut too late, if k is not below that number, after 6".
unfoldable pub reach_of : Cut → ℕ → Result Reach Refusal
reach_of Whole to = Ok (record { addressees = to; stops = false })
reach_of (After k) to =
    unless (ltb k (count_of to)) (Err CutTooLate)
    (Ok (record { addressees = first_members k to; stops = true }))

-- that there is one
abbrev pub in_reach : Result Reach Refusal → Result (Unit {0}) Refusal
in_reach (Ok t) = Ok tt
in_reach (Err r) = Err r

-- a step that sends nothing: any cut of it is too late
unfoldable pub only_whole : Cut → Result (Unit {0}) Refusal
only_whole cut = in_reach (reach_of cut 0)

-- what is left of a plan, by what is said of its reach
abbrev pub within_reach : Planned → Result Reach Refusal → Planned
within_reach a (Ok t) = plan 0 a.change t.stops t.addressees a.message a.suspects
within_reach a (Err r) = refusing (number r) a.change.variables

-- the plan of a step, whose action has the plan a. "The unit's own fields change as in the full step, those k messages are placed, and
-- the unit stops as by Stop."
unfoldable pub cut_by : Cut → Planned → Planned
cut_by Whole a = a
cut_by (After k) a = unless (eqb a.refusal 0) a (within_reach a (reach_of (After k) a.addressees))
