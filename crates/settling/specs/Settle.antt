-- S-4. "Add a settling run: in rounds, one take tried on every line by rising receiver then sender, then one answer tried for every unit
-- and addressee, rising in that order, refused ones passed over, until a whole round does nothing. It returns the table, the steps done,
-- and at rest, held up or budget."
use Rattle.std.specs.Prelude.{ℕ, zero, suc, Bool, ◌&&◌, ◌||◌, not, List, [], ◌∷◌, ◌++◌, eqb, ltb}
use Rattle.view.specs.declared.ProcessId.{ProcessId}
use Rattle.view.specs.Logic.{pick, unless, all_up_to, each_up_to}
use Rattle.tallies.specs.declared.Tally.{Tally}
use Rattle.tallies.specs.Tally.{no_tally, plus, capped}
use Rattle.system.specs.declared.System.{System}
use Rattle.system.specs.Outcome.{Outcome}
use Rattle.sound.specs.Sound.{sound_system}
use Rattle.plan.specs.declared.Action.{Action}
use Rattle.plan.specs.declared.Action.TheVariants.{Receive, Respond}
use Rattle.plan.specs.declared.Step.{Step}
use Rattle.plan.specs.Cut.{whole}
use Rattle.step.specs.Step.{stepped}
use Rattle.events.specs.Counts.{step_tally}
use Rattle.step.specs.Rest.{at_rest}
use Rattle.settling.specs.declared.Half.{Half}
use Rattle.settling.specs.declared.Half.TheVariants.{Takes, Answers}
use Rattle.settling.specs.declared.Ending.{Ending}
use Rattle.settling.specs.declared.Ending.TheVariants.{Rest, Held, Budget}

-- a system on its way to rest; the steps done so far, their number and what they count (S-7)
pub record Progress : Type 0 where
  pub system : System
  pub steps : ℕ
  pub tally : Tally
  pub log : List Step

-- a step that is done counts; "refused ones passed over"
unfoldable pub passing : Progress → Step → Tally → Outcome → Progress
passing x o t a =
    pick (eqb a.refusal 0) (record { system = a.system; steps = suc x.steps; tally = capped (plus x.tally t); log = x.log ++ o ∷ [] }) x

-- one take or answer is tried, unless the budget is used up
unfoldable pub tried : ℕ → Action → Progress → Progress
tried budget o x =
    pick (ltb x.steps budget) (passing x (whole o) (step_tally x.system (whole o)) (stepped x.system (whole o))) x

abbrev process : ℕ → ProcessId
process k = record { 0 = k }

-- the two halves of a round: a take at p on the line from q, and an answer of p to q
unfoldable pub move_of : Half → ℕ → ℕ → Action
move_of Takes p q = Receive (process q) (process p)
move_of Answers p q = Respond (process p) (process q)

unfoldable pub tried_with : ℕ → Half → ℕ → ℕ → Progress → Progress
tried_with budget h p q x = tried budget (move_of h p q) x

-- "by rising receiver then sender", and "for every unit and addressee, rising in that order"
unfoldable pub tried_at : ℕ → Half → ℕ → ℕ → Progress → Progress
tried_at budget h n p x = each_up_to n (tried_with budget h p) x

unfoldable pub half_done : ℕ → Half → ℕ → Progress → Progress
half_done budget h n x = each_up_to n (tried_at budget h n) x

unfoldable pub round_done : ℕ → ℕ → Progress → Progress
round_done budget n x = half_done budget Answers n (half_done budget Takes n x)

-- "until a whole round does nothing": the next rounds follow one that has changed the count
unfoldable pub unless_idle : ℕ → (Progress → Progress) → Progress → Progress
unless_idle before next x = pick (eqb x.steps before) x (next x)

-- at most k rounds. Each but the last does a step, so that one more than the budget are enough (`rounds_end`)
unfoldable pub rounds_done : ℕ → ℕ → ℕ → Progress → Progress
rounds_done zero budget n x = x
rounds_done (suc k) budget n x = unless_idle x.steps (rounds_done k budget n) (round_done budget n x)

-- a take at p on the line from q, or an answer of p to q, is refused
unfoldable pub refused_at : System → Half → ℕ → ℕ → Bool
refused_at s h p q = not (eqb (stepped s (whole (move_of h p q))).refusal 0)

unfoldable pub all_refused_at : ℕ → System → Half → ℕ → Bool
all_refused_at n s h p = all_up_to n (refused_at s h p)

unfoldable pub none_done : ℕ → System → Half → Bool
none_done n s h = all_up_to n (all_refused_at n s h)

-- no take and no answer would be done
unfoldable pub nothing_to_do : System → Bool
nothing_to_do s = none_done s.n s Takes && none_done s.n s Answers

-- "with budget if a further take or answer would then be done"; "held up is everything else"
unfoldable pub ending_of : ℕ → Progress → Ending
ending_of budget x = unless (ltb x.steps budget || nothing_to_do x.system) Budget (pick (at_rest x.system) Rest Held)

-- "it stops after 7,936 steps done at the latest"
abbrev pub settling_budget : ℕ
settling_budget = 7936

-- what a run answers, and the system after it
pub record Settled : Type 0 where
  pub refusal : ℕ
  pub steps : ℕ
  pub ending : Ending
  pub system : System

unfoldable pub ended_with : ℕ → Progress → Settled
ended_with budget x = record { refusal = 0; steps = x.steps; ending = ending_of budget x; system = x.system }

-- before the first step
abbrev pub outset : System → Progress
outset s = record { system = s; steps = 0; tally = no_tally; log = [] }

-- the whole run
abbrev pub settled_from : ℕ → System → Progress
settled_from budget s = rounds_done (suc budget) budget s.n (outset s)

-- "An unsound table gives 1 and 0 steps." The third answer is free there: it is held up, "everything else"
unfoldable pub settled : ℕ → System → Settled
settled budget s =
    unless (sound_system s) (record { refusal = 1; steps = 0; ending = Held; system = s })
    (ended_with budget (settled_from budget s))

-- what the run counts; nothing, where it is refused
unfoldable pub settled_tally : ℕ → System → Tally
settled_tally budget s = unless (sound_system s) no_tally (settled_from budget s).tally

-- its own steps, in turn; none, where it is refused
unfoldable pub settled_log : ℕ → System → List Step
settled_log budget s = unless (sound_system s) [] (settled_from budget s).log
