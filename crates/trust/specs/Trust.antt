-- S-5: "a report that brings back a unit q is refused unless, at some moment since p's latest suspicion of q (that moment counted), q's
-- local view lacked p. A suspicion begins when q leaves p's local view; a fresh table has none". Here this is told from the list of events,
-- without the marks.
use Rattle.std.specs.Prelude.{ℕ, ◌<◌, ◌≡◌, Bool, true, false, ◌||◌, not, List, [], ◌∷◌}
use Rattle.view.specs.declared.ProcessId.{ProcessId}
use Rattle.view.specs.Logic.{pick, is_one_of}
use Rattle.view.specs.View.{has}
use Rattle.system.specs.declared.System.{System}
use Rattle.system.specs.System.{variables_at, may_trust}
use Rattle.system.specs.Fresh.{fresh_of}
use Rattle.plan.specs.declared.Cut.{Cut}
use Rattle.plan.specs.declared.Action.TheVariants.{Report}
use Rattle.step.specs.Step.{stepped}
use Rattle.events.specs.Event.{Event, ran, Move, moves_in, grown}

-- the local view of process p lacks process q
unfoldable pub lacks : System → ℕ → ℕ → Bool
lacks s p q = not (has (variables_at s p).view q)

-- The moments of a list of events, latest first: the system before each move of it, and the one after the last. An event that is refused is
-- no moment.
unfoldable pub earlier : List System → System → Move → List System
earlier before s m = s ∷ before

unfoldable pub moments : System → List Event → List System
moments s es = ran s es ∷ grown earlier [] s (moves_in s es)

-- those since p's latest suspicion of q began, that moment counted: back to the moment at which q left p's view
unfoldable pub suspicion : ℕ → ℕ → List System → List System
suspicion p q [] = []
suspicion p q (s ∷ before) = pick (lacks s p q) (s ∷ suspicion p q before) []

-- at one of these moments q's view lacked p
unfoldable pub lacked_once : ℕ → ℕ → List System → Bool
lacked_once p q [] = false
lacked_once p q (s ∷ before) = lacks s q p || lacked_once p q before

-- since p's latest suspicion of q, in a list of events from a fresh system of n
unfoldable pub lacked_since : ℕ → List Event → ℕ → ℕ → Bool
lacked_since n es p q = lacked_once p q (suspicion p q (moments (fresh_of n).system es))

-- The claim: the mark of two processes, of which the first suspects the second, is just that. A request for n outside 1 to 8 gives zero
-- processes.
abbrev pub Means : ℕ → List Event → ℕ → ℕ → Type 0
Means n es p q =
    is_one_of (fresh_of n).system.n p ≡ true
    → is_one_of (fresh_of n).system.n q ≡ true
    → lacks (ran (fresh_of n).system es) p q ≡ true
    → may_trust (ran (fresh_of n).system es) p q ≡ lacked_since n es p q

-- so: a report, whole or cut, that is done after the list brings back only such processes
abbrev pub ComesBack : ℕ → List Event → ProcessId → ℕ → Cut → ℕ → Type 0
ComesBack n es p v cut q =
    (stepped (ran (fresh_of n).system es) (record { action = Report p v; cut = cut })).refusal ≡ 0
    → lacks (ran (fresh_of n).system es) p.0 q ≡ true
    → has v q ≡ true
    → lacked_since n es p.0 q ≡ true

-- And the other way: a report that is refused with 13 brings back some process of which this is false.
pub record Early (n : ℕ) (es : List Event) (p v : ℕ) : Type 0 where
  pub process : ℕ
  pub gone : lacks (ran (fresh_of n).system es) p process ≡ true
  pub named : has v process ≡ true
  pub early : lacked_since n es p process ≡ false

-- whole or cut. A view is "kept as one byte"
abbrev pub TooEarly : ℕ → List Event → ProcessId → ℕ → Cut → Type 0
TooEarly n es p v cut =
    v < 256 → (stepped (ran (fresh_of n).system es) (record { action = Report p v; cut = cut })).refusal ≡ 13 → Early n es p.0 v
