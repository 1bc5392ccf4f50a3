-- Document 02: "Show that in all steps from a fresh table of n units, at most 124 times n times n takes and answers are ever
-- done."
use Rattle.std.specs.Prelude.{ℕ, zero, suc, ◌+◌, ◌*◌, ◌≤◌, ◌≡◌, List, [], ◌∷◌, map, length}
use Rattle.view.specs.declared.ProcessId.{ProcessId}
use Rattle.system.specs.declared.System.{System}
use Rattle.system.specs.Fresh.{fresh_of}
use Rattle.plan.specs.declared.Action.{Action}
use Rattle.plan.specs.declared.Action.TheVariants.{Report, Receive, Respond}
use Rattle.plan.specs.declared.Step.{Step}
use Rattle.plan.specs.Cut.{whole}
use Rattle.events.specs.Event.{Event, does, ran, Move, made, moves_in, grown, Leads}
use Rattle.settling.specs.Steps.{take_or_answer, TakesOrAnswers}
use Rattle.settling.specs.Settle.{settling_budget}

-- one more for a take or an answer, whole or cut
unfoldable pub takes_then : ℕ → System → Move → ℕ
takes_then k s (made o) = k + take_or_answer o.action

-- how many takes and answers are done in a list of events, "each handed the table that the one before returned"
unfoldable pub takes_and_answers : System → List Event → ℕ
takes_and_answers s es = grown takes_then 0 s (moves_in s es)

-- the claim. A request for n outside 1 to 8 gives zero processes, with which nothing is done
abbrev pub Bound : ℕ → List Event → Type 0
Bound n es = takes_and_answers (fresh_of n).system es ≤ 124 * n * n

-- so, after a list of events, k more takes and answers; 7,936 is 124 times n times n for eight
pub record Further (n : ℕ) (es : List Event) (k : ℕ) : Type 0 where
  pub bound : takes_and_answers (fresh_of n).system es + k ≤ 124 * n * n
  pub budget : takes_and_answers (fresh_of n).system es + k ≤ settling_budget

-- those of a list of takes and answers, all of them done, are as many as it has
abbrev pub FurtherDone : ℕ → List Event → Type 0
FurtherDone n es = (t : System) (os : List Step) → TakesOrAnswers os → Leads (ran (fresh_of n).system es) (map made os) t → Further n es (length os)

abbrev alone : ProcessId
alone = record { 0 = 1 }

abbrev fully : Action → Event
fully o = does (whole o)

-- one process alone, k times: it proposes itself, takes its proposal, answers, takes the answer and takes the Commit
unfoldable pub proposed_alone : ℕ → List Event
proposed_alone zero = []
proposed_alone (suc k) =
    fully (Report alone 1)
    ∷ fully (Receive alone alone)
    ∷ fully (Respond alone alone)
    ∷ fully (Receive alone alone)
    ∷ fully (Receive alone alone)
    ∷ proposed_alone k

-- no less will do: 31 such rounds are 124
abbrev pub Attained : Type 0
Attained = takes_and_answers (fresh_of 1).system (proposed_alone 31) ≡ 124
