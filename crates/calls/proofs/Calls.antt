-- A run of calls on an image is the run of the steps, so that every theorem on lists of steps holds of it.
use Prim.Native.Nat.{ℕ}
use mathlib.Core.Path.{◌≡◌, refl, sym, ◌∙◌, ap}
use mathlib.Core.List.{List, [], ◌∷◌, ◌++◌}
use native.Mathlib.Omega.{arith}
use lib.ListN.{length}
use Rattle.std.specs.Prelude.{Ok, Err}
use Rattle.view.specs.Logic.{pick}
use Rattle.system.specs.declared.System.{System}
use Rattle.system.specs.Outcome.{Outcome}
use Rattle.step.specs.Step.{stepped}
use Rattle.events.specs.Event.{Event, happened, ran}
use Rattle.events.proofs.Moves.{ran_append}
use Rattle.settling.specs.Steps.{settled_events}
use Rattle.settling.proofs.Steps.{runs_to}
use Rattle.image.specs.Image.{image_width, system_in}
use Rattle.list.specs.List.{Order, orders_in, obeyed, system_after}
use Rattle.capi.specs.Calls.{Freshens}
use Rattle.agreement.specs.Demand.{start}
use Rattle.agreement.proofs.Theorem.{demand_3}
use Rattle.calls.specs.Calls.{steps_among, Called, nothing, step, steps, settling, EveryRun}

-- a list of orders is the list of its steps
orders_ran : (s : System) (os : List Order) (rest : List Event) → ran (system_after s os) rest ≡ ran s (steps_among os ++ rest)
unfolding system_after steps_among obeyed happened ran
orders_ran s [] rest = refl
orders_ran s (Err r ∷ os) rest = orders_ran s os rest
orders_ran s (Ok o ∷ os) rest = orders_ran (stepped s o).system os rest

called_ran : {b c : List ℕ} {es : List Event} → Called b es c → system_in c ≡ ran (system_in b) es
unfolding happened ran
called_ran nothing = refl
called_ran (step {es} gives rest) = called_ran rest ∙ ap (λ (x : Outcome). ran x.system es) gives.outcome
called_ran (steps {b} {list} {m} {es} performs rest) =
    called_ran rest ∙ ap (λ (x : System). ran x es) performs.system ∙ orders_ran (system_in b) (orders_in (length m) list) es
called_ran (settling {b} {es} tells rest) =
    called_ran rest ∙ ap (λ (x : System). ran x es) (tells.system ∙ sym (runs_to 7936 (system_in b))) ∙ sym (ran_append (system_in b) (settled_events 7936 (system_in b)) es)

begun : (n k : ℕ) (a b : List ℕ) → length a ≡ image_width → Freshens n a k b → system_in b ≡ start n
unfolding pick
begun n k a b long fresh = grind arith

pub image_run : EveryRun
image_run n k a b c es long fresh calls =
    record { system = called_ran calls ∙ ap (λ (s : System). ran s es) (begun n k a b long fresh); demand = demand_3 n es }
