-- Who has accepted what, told from the list of events. Document 01: "Otherwise Next becomes that position + 1 and Acc(that
-- position) goes to q; by this answer, done in the run, and by nothing else, p has accepted the recorded view at that position."
use Rattle.std.specs.Prelude.{ℕ, Bool, false, ◌&&◌, ◌||◌, List, [], ◌∷◌, ◌++◌, ltb, eqb, None, Some}
use Rattle.view.specs.Logic.{pick}
use Rattle.system.specs.declared.Variables.{Variables}
use Rattle.system.specs.declared.System.{System}
use Rattle.system.specs.Process.{pending_at, Pending}
use Rattle.system.specs.System.{process_at, variables_at}
use Rattle.plan.specs.declared.Action.{Action}
use Rattle.plan.specs.declared.Action.TheVariants.{Report, Receive, Respond, Crash}
use Rattle.events.specs.Event.{Event, Move, made, moves_in, grown}

pub record Acceptance : Type 0 where
  pub process : ℕ
  pub view : ℕ
  pub index : ℕ

-- an answer of p, whose variables are x, to what it has recorded: a Retry accepts nothing
unfoldable pub accepted_from : ℕ → Variables → Pending → List Acceptance
accepted_from p x None = []
accepted_from p x (Some r) = pick (ltb r.index.0 x.next.0) [] (record { process = p; view = r.view; index = r.index.0 } ∷ [])

-- what an action accepts where it is done: an answer, and nothing else
abbrev pub accepted_by : System → Action → List Acceptance
accepted_by s (Report p v) = []
accepted_by s (Receive q p) = []
accepted_by s (Respond p q) = accepted_from p.0 (variables_at s p.0) (pending_at (process_at s p.0) q.0)
accepted_by s (Crash p) = []

-- one move more: a step, whole or cut. "The unit's own fields change as in the full step", so that a cut answer accepts too
unfoldable pub accepted_then : List Acceptance → System → Move → List Acceptance
accepted_then acc s (made o) = acc ++ accepted_by s o.action

unfoldable pub accepted_in : System → List Event → List Acceptance
accepted_in s es = grown accepted_then [] s (moves_in s es)

abbrev pub is_this : Acceptance → ℕ → ℕ → ℕ → Bool
is_this a u v i = eqb a.process u && eqb a.view v && eqb a.index i

-- process u has accepted view v at index i
unfoldable pub accepted : List Acceptance → ℕ → ℕ → ℕ → Bool
accepted [] u v i = false
accepted (a ∷ rest) u v i = is_this a u v i || accepted rest u v i
