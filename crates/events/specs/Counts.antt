-- S-7: what a step, and a list of events, sends, takes and loses. "Each count is defined from the steps done".
use Rattle.std.specs.Prelude.{ℕ, ◌+◌, Bool, true, false, ◌&&◌, not, List, eqb, ltb}
use Rattle.view.specs.Logic.{pick, one, sum_up_to}
use Rattle.view.specs.View.{has, count_of}
use Rattle.tallies.specs.declared.Tally.{Tally}
use Rattle.tallies.specs.Tally.{no_tally, plus}
use Rattle.channel.specs.declared.Message.{Message}
use Rattle.channel.specs.declared.Message.TheVariants.{Propose, Retry, Acc, Commit}
use Rattle.system.specs.declared.System.{System}
use Rattle.system.specs.System.{variables_at, channel_at}
use Rattle.system.specs.Fresh.{fresh_of}
use Rattle.plan.specs.declared.Scope.{Scope}
use Rattle.plan.specs.declared.Step.{Step}
use Rattle.plan.specs.Scope.{scope_of}
use Rattle.plan.specs.Cut.{cut_by}
use Rattle.plan.specs.Plan.{Planned}
use Rattle.step.specs.Step.{plan_of, taken_off, attempted, stepped}
use Rattle.events.specs.Event.{Event, ran, Move, made, moves_in, grown}

-- ---- messages that wait
-- those on the channel from process q to process p
abbrev pub waiting_from : System → ℕ → ℕ → ℕ
waiting_from s p q = (channel_at s q p).len

-- those on every channel towards process p
unfoldable pub waiting_towards : System → ℕ → ℕ
waiting_towards s p = sum_up_to s.n (waiting_from s p)

-- all of them
unfoldable pub waiting_in : System → ℕ
waiting_in s = sum_up_to s.n (waiting_towards s)

-- ---- one step
-- process k is an addressee, and has stopped
unfoldable pub vanishes_at : System → ℕ → ℕ → ℕ
vanishes_at s to k = one (has to k && (variables_at s k).crashed)

-- "sent to a stopped unit"
unfoldable pub vanished : System → ℕ → ℕ
vanished s to = sum_up_to 8 (vanishes_at s to)

-- "lost to a stop (cleared by it, or sent to a stopped unit)", where the plan of process p is carried out in t: cleared is what waits
-- towards process p when it stops: what waits there in t, and the message that it sends to itself
unfoldable pub lost_at : System → ℕ → Planned → ℕ
lost_at t p a = vanished t a.addressees + pick a.stops (waiting_towards t p + one (has a.addressees p)) 0

unfoldable pub is_commit : Message → Bool
is_commit (Propose v i) = false
is_commit (Retry i j) = false
is_commit (Acc i) = false
is_commit (Commit v i) = true

-- What the plan of process p counts, where PropOut was `before` and so many messages are lost. Document 01, "Tally": "A proposal is a rise of
-- PropOut, cut or not, committed if any Commit was sent."
abbrev pub plan_counts : Scope → Planned → ℕ → ℕ → Tally
plan_counts c a before lost =
    record {
      sent = count_of a.addressees;
      taken = one c.takes;
      waiting = 0;
      lost = lost;
      proposals = one (ltb before a.change.variables.propout.0);
      committed = one (is_commit a.message && not (eqb a.addressees 0));
    }

-- the plan is carried out in t, whose waiting messages are those that the step did not take
unfoldable pub plan_tally : System → Scope → Planned → Tally
plan_tally t c a = plan_counts c a (variables_at t c.actor.0).propout.0 (lost_at t c.actor.0 a)

-- a step that is refused counts nothing
unfoldable pub tally_if : ℕ → Tally → Tally
tally_if refusal a = pick (eqb refusal 0) a no_tally

unfoldable pub step_tally : System → Step → Tally
step_tally s o =
    tally_if (attempted s o).refusal (plan_tally (taken_off s (scope_of o.action)) (scope_of o.action) (cut_by o.cut (plan_of s o.action)))

-- on any system, sound or not
unfoldable pub done_tally : System → Step → Tally
done_tally s o = tally_if (stepped s o).refusal (step_tally s o)

-- ---- in the end
unfoldable pub still_waiting : System → Tally
still_waiting s = record { sent = 0; taken = 0; waiting = waiting_in s; lost = 0; proposals = 0; committed = 0 }

-- ---- a list of events
unfoldable pub move_tally : System → Move → Tally
move_tally s (made o) = step_tally s o

unfoldable pub tally_then : Tally → System → Move → Tally
tally_then a s m = plus a (move_tally s m)

unfoldable pub events_tally : System → List Event → Tally
events_tally s es = grown tally_then no_tally s (moves_in s es)

-- the tally of a list of events: what they count, and what waits in the end
unfoldable pub tally_of : System → List Event → Tally
tally_of s es = plus (events_tally s es) (still_waiting (ran s es))

-- from a fresh system of n. A request for n outside 1 to 8 gives zero processes
unfoldable pub fresh_tally : ℕ → List Event → Tally
fresh_tally n es = tally_of (fresh_of n).system es
