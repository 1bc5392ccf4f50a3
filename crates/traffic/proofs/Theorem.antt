-- For every list of events from a fresh system: sent is taken, waiting and lost; and the counts stay small.
use Prim.Native.Nat.{ℕ, ◌+◌, ◌*◌, ◌≤◌}
use mathlib.Core.Path.{◌≡◌, refl, ap}
use mathlib.Core.List.{List, [], ◌∷◌}
use native.Mathlib.Omega.{arith}
use lib.ListN.{length}
use Rattle.view.specs.Logic.{pick, sum_up_to, one}
use Rattle.view.specs.View.{has, count_of}
use Rattle.view.proofs.Sums.{sum_past, sum_at_most}
use Rattle.tallies.specs.declared.Tally.{Tally}
use Rattle.tallies.specs.Tally.{no_tally, plus}
use Rattle.channel.specs.declared.Channel.{Channel}
use Rattle.channel.specs.Channel.{empty_channel}
use Rattle.system.specs.declared.System.{System}
use Rattle.system.specs.Fresh.{fresh_system, fresh_of}
use Rattle.plan.specs.declared.Scope.{Scope}
use Rattle.plan.specs.declared.Step.{Step}
use Rattle.plan.specs.Plan.{Planned}
use Rattle.events.specs.Counts.{waiting_from, waiting_in, plan_tally, tally_if, step_tally, still_waiting, move_tally, tally_then, events_tally, tally_of, fresh_tally}
use Rattle.step.proofs.Frames.{Shape}
use Rattle.step.proofs.Weights.{one_small}
use Rattle.step.proofs.Beginning.{fresh_channel}
use Rattle.events.specs.Event.{Event, happened, ran, Move, made, moved, moves_of, moves_then, moves_in, grown}
use Rattle.events.proofs.Runs.{any_run, start_shape}
use Rattle.traffic.specs.Traffic.{Conserved, moves_made, Few}
use Rattle.traffic.proofs.Waiting.{waiting_sized, count_sum_lem}
use Rattle.traffic.proofs.Steps.{Balanced, step_balanced}

abbrev start : ℕ → System
start n = (fresh_of n).system

-- ---- a run
pub all_balanced : (s : System) → Shape s → (es : List Event) → Balanced s (ran s es) (events_tally s es)
unfolding events_tally tally_then move_tally plus no_tally
all_balanced s shape es =
    any_run tally_then (Balanced s) (λ u t a o v w r b. omega (arith, b, step_balanced v r)) s no_tally es shape (omega arith)

-- ---- at the start
-- nothing waits
pub fresh_none : (n : ℕ) → waiting_in (fresh_system n) ≡ 0
unfolding fresh_system sum_up_to empty_channel
fresh_none n =
    omega (
      arith,
      waiting_sized n (fresh_system n) refl,
      sum_past n 0 (λ p. sum_up_to n (waiting_from (fresh_system n) p)) (omega arith)
          (λ p h. sum_past n 0 (waiting_from (fresh_system n) p) (omega arith) (λ q l. ap (λ (c : Channel). c.len) (fresh_channel n q p))),
    )

start_none : (n : ℕ) → waiting_in (start n) ≡ 0
unfolding fresh_of pick
start_none n = grind (arith, fresh_none)

-- ---- sent is taken, waiting and lost
pub conserved : (n : ℕ) (es : List Event) → Conserved n es
unfolding fresh_tally tally_of plus still_waiting
conserved n es = omega (arith, all_balanced (start n) (start_shape n) es, start_none n)

-- ---- the counts stay small
count_small : (v : ℕ) → count_of v ≤ 8
count_small v = omega (arith, count_sum_lem v, sum_at_most 8 (λ k. one (has v k)) 1 (λ k l u. one_small (has v k)))

-- what k moves may count
pub record Small (k : ℕ) (a : Tally) : Type 0 where
  pub sent : a.sent ≤ 8 * k
  pub proposals : a.proposals ≤ k
  pub committed : a.committed ≤ k

small_if : (k : ℕ) (a : Tally) → Small 1 a → Small 1 (tally_if k a)
unfolding tally_if no_tally pick
small_if k a h = grind arith

plan_small : (t : System) (c : Scope) (a : Planned) → Small 1 (plan_tally t c a)
unfolding plan_tally
plan_small t c a = grind (arith, count_small, one_small)

pub step_small : (s : System) (o : Step) → Small 1 (step_tally s o)
unfolding step_tally
step_small s o = small_if _ _ (plan_small _ _ _)

move_small : (s : System) (m : Move) → Small 1 (move_tally s m)
unfolding move_tally
move_small s (made o) = step_small s o

more_small : (k : ℕ) (a b : Tally) → Small k a → Small 1 b → Small (k + 1) (plus a b)
unfolding plus
more_small k a b some one = grind arith

all_small : (j k : ℕ) (a : Tally) (s : System) (ms : List Move) → Small k a → k + length ms ≡ j → Small j (grown tally_then a s ms)
unfolding grown tally_then
all_small j k a s [] h e = grind arith
all_small j k a s (m ∷ ms) h e = all_small j (k + 1) (plus a (move_tally s m)) (moved s m).system ms (more_small k a _ h (move_small s m)) (omega arith)

pub few_counted : (n : ℕ) (es : List Event) → Few n es
unfolding fresh_tally tally_of events_tally plus still_waiting no_tally
few_counted n es =
    let all = all_small (moves_made n es) 0 no_tally (start n) (moves_in (start n) es) (grind arith) (omega arith) in
    grind (arith, conserved)

-- each event makes one move at the most
pub moves_few : (s : System) (es : List Event) → length (moves_in s es) ≤ length es
unfolding moves_in moves_then moves_of pick
moves_few s [] = omega arith
moves_few s (e ∷ es) = grind (arith, moves_few (happened s e).system es)
