-- What happens to a system, and what is done then. A run is a list of events. What is so of runs is told of *moves*, the steps that are done
-- in them: a kind of event says only which moves it makes.
use Rattle.std.specs.Prelude.{◌≡◌, List, [], ◌∷◌, ◌++◌, eqb}
use Rattle.view.specs.Logic.{pick}
use Rattle.system.specs.declared.System.{System}
use Rattle.system.specs.Outcome.{Outcome}
use Rattle.plan.specs.declared.Step.{Step}
use Rattle.step.specs.Step.{stepped}

-- What happens to a system: a step, whole or cut. This is a type of the definitions alone, so that an event can hold what no enum of the
-- program can, such as a list.
pub data Event : Type 0 where
  does : Step → Event

unfoldable pub happened : System → Event → Outcome
happened s (does o) = stepped s o

-- the system after a list of events, "each handed the table that the one before returned"
unfoldable pub ran : System → List Event → System
ran s [] = s
ran s (e ∷ es) = ran (happened s e).system es

-- ---- what is done in a run
pub data Move : Type 0 where
  made : Step → Move

unfoldable pub moved : System → Move → Outcome
moved s (made o) = stepped s o

-- the moves of an event, if it is done
unfoldable pub moves_of : Event → List Move
moves_of (does o) = made o ∷ []

-- the moves of one event whose outcome is a, and those that follow: one that is refused makes none
unfoldable pub moves_then : Outcome → List Move → (System → List Move) → List Move
moves_then a ms next = pick (eqb a.refusal 0) ms [] ++ next a.system

-- those of a list of events
unfoldable pub moves_in : System → List Event → List Move
moves_in s [] = []
moves_in s (e ∷ es) = moves_then (happened s e) (moves_of e) (λ t. moves_in t es)

-- the moves lead from s to t, each of them done
abbrev pub Leads : System → List Move → System → Type 0
Leads s [] t = s ≡ t
Leads s (m ∷ ms) t = ((moved s m).refusal ≡ 0) × Leads (moved s m).system ms t

-- what grows with each move (acceptances, moments, counts), told from the system before it
unfoldable pub grown : {G : Type 0} → (G → System → Move → G) → G → System → List Move → G
grown grow g s [] = g
grown grow g s (m ∷ ms) = grown grow (grow g s m) (moved s m).system ms

-- each move is so, in the system in which it is made
abbrev pub AllSo : (System → Move → Type 0) → System → List Move → Type 0
AllSo H s [] = Unit {0}
AllSo H s (m ∷ ms) = H s m × AllSo H (moved s m).system ms
