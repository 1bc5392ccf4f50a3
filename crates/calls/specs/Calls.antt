-- A program lends one image to call after call. Each call keeps the promise that the library makes of it; nothing else is known of the
-- bytes.
use Rattle.std.specs.Prelude.{ℕ, ◌≡◌, List, [], ◌∷◌, ◌++◌, Ok, Err, length}
use Rattle.plan.specs.declared.Step.{Step}
use Rattle.step.specs.Step.{stepped}
use Rattle.events.specs.Event.{Event, does, ran}
use Rattle.settling.specs.Settle.{settled}
use Rattle.settling.specs.Steps.{settled_events}
use Rattle.image.specs.Image.{image_width, system_in}
use Rattle.alternatives.specs.Gives.{Gives}
use Rattle.list.specs.List.{Order, Performs, orders_in}
use Rattle.capi.specs.Calls.{Freshens, Tells}
use Rattle.agreement.specs.Demand.{Demand, start}
use Rattle.settling.specs.Settle.{settling_budget}

-- the steps of a list of orders: what is no step is left out
unfoldable pub steps_among : List Order → List Event
steps_among [] = []
steps_among (Err r ∷ os) = steps_among os
steps_among (Ok o ∷ os) = does o ∷ steps_among os

-- calls for these steps, refused ones too, bring bytes b to bytes c
pub data Called : List ℕ → List Event → List ℕ → Type 0 where
  nothing : {b : List ℕ} → Called b [] b
  step : {b c d : List ℕ} {k : ℕ} {o : Step} {es : List Event} → Gives (stepped (system_in b) o) b k c → Called c es d → Called b (does o ∷ es) d
  steps : {b c d list m numbers : List ℕ} {r : ℕ} {es : List Event} → Performs list b m r c numbers → Called c es d
      → Called b (steps_among (orders_in (length m) list) ++ es) d
  -- the settling run's own takes and answers
  settling : {b c d pair told : List ℕ} {k : ℕ} {es : List Event} → Tells (settled settling_budget (system_in b)) b k c pair told → Called c es d
      → Called b (settled_events settling_budget (system_in b) ++ es) d

-- bytes c, after a fresh system of n was asked for and calls for these steps were made: they hold the system after the steps, and
-- demand 3 holds of it
pub record CalledRun (n : ℕ) (es : List Event) (c : List ℕ) : Type 0 where
  pub system : system_in c ≡ ran (start n) es
  pub demand : Demand n es

abbrev pub EveryRun : Type 0
EveryRun =
    (n k : ℕ) (a b c : List ℕ) (es : List Event) → length a ≡ image_width → Freshens n a k b → Called b es c → CalledRun n es c
