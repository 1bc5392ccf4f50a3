-- S-4, what is true of a settling run: it is a list of takes and answers, all of them done, and it ends where there is nothing more to do.
use Rattle.std.specs.Prelude.{ℕ, ◌≡◌, true, List, [], ◌∷◌, map, length}
use Rattle.tallies.specs.declared.Tally.{Tally}
use Rattle.tallies.specs.Tally.{no_tally, capped}
use Rattle.system.specs.declared.System.{System}
use Rattle.sound.specs.Sound.{sound_system}
use Rattle.plan.specs.declared.Action.{Action}
use Rattle.plan.specs.declared.Action.TheVariants.{Report, Receive, Respond, Crash}
use Rattle.plan.specs.declared.Step.{Step}
use Rattle.events.specs.Event.{Event, does, ran, made, grown, Leads}
use Rattle.events.specs.Counts.{tally_then}
use Rattle.settling.specs.declared.Ending.TheVariants.{Budget}
use Rattle.settling.specs.Settle.{Settled, nothing_to_do, settled, settled_tally, settled_log}

-- 1 for a take or an answer
unfoldable pub take_or_answer : Action → ℕ
take_or_answer (Report p v) = 0
take_or_answer (Receive q p) = 1
take_or_answer (Respond p q) = 1
take_or_answer (Crash p) = 0

abbrev pub TakesOrAnswers : List Step → Type 0
TakesOrAnswers [] = Unit {0}
TakesOrAnswers (o ∷ os) = (take_or_answer o.action ≡ 1) × TakesOrAnswers os

-- the run as a list of events: its own steps
abbrev pub settled_events : ℕ → System → List Event
settled_events budget s = map does (settled_log budget s)

-- The steps os, from s, are takes and answers; all of them are done, and lead to the system of the answer o; they are as many as it says; and
-- the tally t is theirs (S-7)
pub record Consists (s : System) (os : List Step) (o : Settled) (t : Tally) : Type 0 where
  pub each : TakesOrAnswers os
  pub leads : Leads s (map made os) o.system
  pub count : length os ≡ o.steps
  pub tally : t ≡ capped (grown tally_then no_tally s (map made os))

-- a settling run is its own steps
abbrev pub IsItsSteps : ℕ → System → Type 0
IsItsSteps budget s = Consists s (settled_log budget s) (settled budget s) (settled_tally budget s)

-- so, as a list of events, it leads to the system that it answers
abbrev pub RunsTo : ℕ → System → Type 0
RunsTo budget s = ran s (settled_events budget s) ≡ (settled budget s).system

-- "until a whole round does nothing": unless the run says budget, no take and no answer would then be done
abbrev pub Ends : ℕ → System → Type 0
Ends budget s = sound_system s ≡ true → ((settled budget s).ending ≡ Budget → ⊥) → nothing_to_do (settled budget s).system ≡ true
