-- S-8. "For a fresh table of at most 2 units and a depth of at most 8, walk every run in which the link and the units move in turn, link
-- first. The link may report any allowed view at one unit, stop one, or pass. Then the units may take one message, answer once, or pass,
-- and the turn goes back. Refused moves are not choices; cuts, and later returns and sets, are left out. Print the number of runs of
-- exactly that depth, and how many end with an entry beyond position 1."
use Rattle.std.specs.Prelude.{ℕ, zero, suc, ◌+◌, ◌≤◌, min, Bool, ◌&&◌, ◌||◌, not, List, [], ◌∷◌, ◌++◌, Result, Ok, Err, map, eqb, leb, length}
use Rattle.view.specs.declared.ProcessId.{ProcessId}
use Rattle.view.specs.Logic.{pick, unless, all_up_to, each_up_to, is_one_of}
use Rattle.view.specs.View.{everyone}
use Rattle.system.specs.declared.System.{System}
use Rattle.system.specs.declared.refusal.Refusal.{Refusal}
use Rattle.system.specs.declared.refusal.Refusal.TheVariants.{Stranger, TooDeep}
use Rattle.system.specs.Outcome.{Outcome}
use Rattle.system.specs.Process.{is_written}
use Rattle.system.specs.System.{entry_in}
use Rattle.system.specs.Fresh.{fresh_system}
use Rattle.plan.specs.declared.Action.{Action}
use Rattle.plan.specs.declared.Action.TheVariants.{Report, Receive, Respond, Crash}
use Rattle.plan.specs.Cut.{whole}
use Rattle.step.specs.Step.{stepped}
use Rattle.orders.specs.declared.RunCounts.{RunCounts}

abbrev pub process : ℕ → ProcessId
process k = record { 0 = k }

-- ---- what the link may do
-- the views of n processes are the numbers to that of all n; which of them are allowed at p, the step says
unfoldable pub with_report : ℕ → ℕ → List Action → List Action
with_report p v os = os ++ (Report (process p) v ∷ [])

-- "report any allowed view at one unit, stop one"
unfoldable pub with_link_moves_at : ℕ → ℕ → List Action → List Action
with_link_moves_at n p os = each_up_to (everyone n) (with_report p) os ++ (Crash (process p) ∷ [])

unfoldable pub link_moves : ℕ → List Action
link_moves n = each_up_to n (with_link_moves_at n) []

-- ---- what the processes may do
-- "take one message"
unfoldable pub with_take : ℕ → ℕ → List Action → List Action
with_take p q os = os ++ (Receive (process q) (process p) ∷ [])

unfoldable pub with_takes_at : ℕ → ℕ → List Action → List Action
with_takes_at n p os = each_up_to n (with_take p) os

-- "answer once"
unfoldable pub with_answer : ℕ → ℕ → List Action → List Action
with_answer p q os = os ++ (Respond (process p) (process q) ∷ [])

unfoldable pub with_answers_at : ℕ → ℕ → List Action → List Action
with_answers_at n p os = each_up_to n (with_answer p) os

unfoldable pub process_moves : ℕ → List Action
process_moves n = each_up_to n (with_answers_at n) (each_up_to n (with_takes_at n) [])

-- ---- the walk
-- what is chosen at a turn
pub data Choice : Type 0 where
  pass : Choice
  make : Action → Choice

-- a run: the choices of its turns, the first one first, and the system in which it ends
pub record Run : Type 0 where
  pub choices : List Choice
  pub end : System

-- a run of no turn
abbrev pub ended_at : System → Run
ended_at s = record { choices = []; end = s }

-- a run with one choice before it
abbrev pub begun_with : Choice → Run → Run
begun_with c r = record { choices = c ∷ r.choices; end = r.end }

-- the runs that begin with a move of this outcome: "Refused moves are not choices"
unfoldable pub begun_by : (System → List Run) → Action → Outcome → List Run
begun_by next o a = pick (eqb a.refusal 0) (map (begun_with (make o)) (next a.system)) []

-- that begin with one of these moves, whole: "cuts .. are left out"
unfoldable pub by_moves : (System → List Run) → System → List Action → List Run
by_moves next s [] = []
by_moves next s (o ∷ os) = begun_by next o (stepped s (whole o)) ++ by_moves next s os

-- "or pass": a turn changes nothing, or makes one of its moves
unfoldable pub turned : (System → List Run) → System → List Action → List Run
turned next s os = map (begun_with pass) (next s) ++ by_moves next s os

-- "the link and the units move in turn": every run of so many turns of n processes from system s, the link's turn first or the processes'
unfoldable mutual
  pub link_turn : ℕ → ℕ → System → List Run
  link_turn zero n s = ended_at s ∷ []
  link_turn (suc depth) n s = turned (λ t. process_turn depth n t) s (link_moves n)

  pub process_turn : ℕ → ℕ → System → List Run
  process_turn zero n s = ended_at s ∷ []
  process_turn (suc depth) n s = turned (λ t. link_turn depth n t) s (process_moves n)

-- ---- what is counted
-- process p has nothing at index i, or i is not beyond 1
unfoldable pub old_at : System → ℕ → ℕ → Bool
old_at s p i = leb i 1 || not (is_written (entry_in s p i))

unfoldable pub all_old_at : System → ℕ → Bool
all_old_at s p = all_up_to 32 (old_at s p)

-- "an entry beyond position 1", at one of n processes
unfoldable pub goes_beyond : ℕ → System → Bool
goes_beyond n s = not (all_up_to n (all_old_at s))

unfoldable pub entered_among : ℕ → List Run → ℕ
entered_among n [] = 0
entered_among n (r ∷ rs) = pick (goes_beyond n r.end) 1 0 + entered_among n rs

-- "the number of runs of exactly that depth, and how many end with an entry beyond position 1"
unfoldable pub run_counts_of : ℕ → List Run → RunCounts
run_counts_of n rs = record { runs = length rs; entered = entered_among n rs }

-- two counts, added up: a sum past the end stays at the largest number; and that none passes it
abbrev pub together : RunCounts → RunCounts → RunCounts
together a b = record { runs = min (a.runs + b.runs) 4294967295; entered = min (a.entered + b.entered) 4294967295 }

abbrev pub FitsTogether : RunCounts → RunCounts → Type 0
FitsTogether a b = (a.runs + b.runs ≤ 4294967295) × (a.entered + b.entered ≤ 4294967295)

-- ---- the answer
-- Refusal 2, "a fresh table is wanted of a wrong size"; "14 too deep, for depth above 8 or more than 2 units, after 2"
unfoldable pub walked : ℕ → ℕ → Result RunCounts Refusal
walked n depth =
    unless (is_one_of 8 n) (Err Stranger)
    (unless (leb n 2 && leb depth 8) (Err TooDeep)
    (Ok (run_counts_of n (link_turn depth n (fresh_system n)))))
