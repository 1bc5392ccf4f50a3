-- S-8: "Instructors want to say "I tried them all"." Which choices make a run, told without the walk; and that the walk has each such run,
-- once, and no other.
use Rattle.std.specs.Prelude.{ℕ, ◌≤◌, ◌≡◌, Bool, true, false, ◌&&◌, Ok, eqb, ltb, length}
use mathlib.Core.List.{List, [], ◌∷◌, Memᴰ}
use Rattle.system.specs.declared.System.{System}
use Rattle.system.specs.Process.{is_written}
use Rattle.system.specs.System.{entry_in}
use Rattle.system.specs.Fresh.{fresh_system}
use Rattle.plan.specs.declared.Action.{Action}
use Rattle.plan.specs.declared.Action.TheVariants.{Report, Receive, Respond, Crash}
use Rattle.plan.specs.Cut.{whole}
use Rattle.step.specs.Step.{stepped}
use Rattle.events.specs.Event.{Event, does, ran}
use Rattle.agreement.specs.Demand.{Demand, start}
use Rattle.quiet.specs.Quiet.{Quiet}
use Rattle.orders.specs.Orders.{Choice, pass, make, Run, link_turn, goes_beyond, run_counts_of, walked}

-- ---- what a run is
-- "The link may report any allowed view at one unit, stop one": a view is "kept as one byte"
unfoldable pub is_link_move : Action → Bool
is_link_move (Report p v) = ltb v 256
is_link_move (Receive q p) = false
is_link_move (Respond p q) = false
is_link_move (Crash p) = true

-- "Then the units may take one message, answer once"
unfoldable pub is_process_move : Action → Bool
is_process_move (Report p v) = false
is_process_move (Receive q p) = true
is_process_move (Respond p q) = true
is_process_move (Crash p) = false

-- "or pass"; "Refused moves are not choices"
unfoldable pub may_choose : (Action → Bool) → System → Choice → Bool
may_choose is_move s pass = true
may_choose is_move s (make o) = is_move o && eqb (stepped s (whole o)).refusal 0

unfoldable pub chosen : System → Choice → System
chosen s pass = s
chosen s (make o) = (stepped s (whole o)).system

-- "the link and the units move in turn": from system s, the link's turn first or the processes'
unfoldable mutual
  pub is_link_run : List Choice → System → Bool
  is_link_run [] s = true
  is_link_run (c ∷ cs) s = may_choose is_link_move s c && is_process_run cs (chosen s c)

  pub is_process_run : List Choice → System → Bool
  is_process_run [] s = true
  is_process_run (c ∷ cs) s = may_choose is_process_move s c && is_link_run cs (chosen s c)

-- the steps of a run: a pass is none
unfoldable pub events_of : List Choice → List Event
events_of [] = []
events_of (pass ∷ cs) = events_of cs
events_of (make o ∷ cs) = does (whole o) ∷ events_of cs

-- ---- the claim
-- no two of them make the same choices
unfoldable pub AllDiffer : List Run → Type 0
AllDiffer [] = Unit {0}
AllDiffer (r ∷ rs) = ((q : Run) → Memᴰ q rs → r.choices ≡ q.choices → ⊥) × AllDiffer rs

-- a run of exactly so many turns from a fresh system of n: it ends where its list of steps leads, so that demand 3 and S-6 hold there
pub record EndsWell (n depth : ℕ) (r : Run) : Type 0 where
  pub deep : length r.choices ≡ depth
  pub runs_by : is_link_run r.choices (start n) ≡ true
  pub end : r.end ≡ ran (start n) (events_of r.choices)
  pub agreed : Demand n (events_of r.choices)
  pub final : Quiet n (events_of r.choices)

-- "an entry beyond position 1": one of n processes has it, at an index of 2 to 32
pub record EntryBeyond (n : ℕ) (s : System) : Type 0 where
  pub process : ℕ
  pub index : ℕ
  pub first : 1 ≤ process
  pub last : process ≤ n
  pub beyond : 2 ≤ index
  pub inside : index ≤ 32
  pub written : is_written (entry_in s process index) ≡ true

pub record TriedAll (n depth : ℕ) : Type 0 where
  -- what is counted is these runs
  pub counts : depth ≤ 8 → walked n depth ≡ Ok (run_counts_of n (link_turn depth n (fresh_system n)))
  -- those that are told as ending with an entry beyond index 1 do, and no others
  pub entered_has : (s : System) → goes_beyond n s ≡ true → EntryBeyond n s
  pub has_entered : (s : System) → EntryBeyond n s → goes_beyond n s ≡ true
  -- each of them is a run
  pub each : (r : Run) → Memᴰ r (link_turn depth n (fresh_system n)) → EndsWell n depth r
  -- every run is among them
  pub every : (cs : List Choice) → length cs ≡ depth → is_link_run cs (start n) ≡ true
      → (r : Run) × Memᴰ r (link_turn depth n (fresh_system n)) × (r.choices ≡ cs)
  -- and none twice
  pub once : AllDiffer (link_turn depth n (fresh_system n))
