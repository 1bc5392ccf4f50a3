-- All that is so of every system that events reach from a fresh one: each step that is done, whole or cut, keeps it.
use Prim.Native.Nat.{ℕ}
use mathlib.Core.Bool.{Bool}
use mathlib.Core.List.{List, ◌++◌}
use native.Mathlib.Omega.{arith}
use Rattle.system.specs.declared.System.{System}
use Rattle.system.specs.System.{variables_at}
use Rattle.plan.specs.declared.Action.{Action}
use Rattle.step.proofs.Frames.{Shape}
use Rattle.step.proofs.Cases.{Transition}
use Rattle.events.specs.Event.{Event, ran, moves_in, grown}
use Rattle.events.proofs.Runs.{any_run}
use Rattle.agreement.specs.Accepted.{Acceptance, accepted_by, accepted_then}
use Rattle.agreement.proofs.Invariant.{Reached}
use Rattle.agreement.proofs.Steps.{transition_after}
use Rattle.quiet.proofs.Proposals.{Proposals, transition_proposals}
use Rattle.quiet.proofs.Turns.{transition_taking}
use Rattle.quiet.proofs.Standing.{Standing, turn_standing}
use Rattle.quiet.proofs.Pursuit.{Pursuit, Staying}
use Rattle.quiet.proofs.PursuitSteps.{transition_pursuit}

-- gone says who has stopped at some time: of those nothing is said
pub record Orderly (gone : ℕ → Bool) (s : System) (acc : List Acceptance) : Type 0 where
  pub reached : Reached s acc
  pub proposals : Proposals s
  pub pursuit : Pursuit gone s
  pub standing : Standing gone s acc

transition_orderly : {gone then : ℕ → Bool} {s t : System} {acc : List Acceptance} (o : Action) → Transition s t o → Staying gone then t → Orderly gone s acc
    → Orderly then t (acc ++ accepted_by s o)
transition_orderly o k stays z =
    let then = transition_after z.reached o k in
    record {
      reached = then.reached;
      proposals = transition_proposals z.reached z.proposals o k;
      pursuit = transition_pursuit stays z.reached z.proposals then.since z.pursuit o k;
      standing = turn_standing stays.still z.reached z.standing (transition_taking z.reached z.proposals o k);
    }

-- ---- a run
-- who has stopped at some time: who has stopped, since nobody who has ever comes back
abbrev pub gone : System → ℕ → Bool
gone s k = (variables_at s k).crashed

staying : {s t : System} {o : Action} → Transition s t o → Staying (gone s) (gone t) t
staying {s} {t} {o} k = grind arith

pub run_orderly : (s : System) (acc : List Acceptance) (es : List Event) → Shape s → Orderly (gone s) s acc
    → Orderly (gone (ran s es)) (ran s es) (grown accepted_then acc s (moves_in s es))
unfolding accepted_then
run_orderly s acc es shape =
    any_run accepted_then (λ t old. Orderly (gone t) t old) (λ u t old o v w r z. transition_orderly o.action r.change (staying r.change) z) s acc es shape
