-- A settling run is itself a list of takes and answers: what it leaves at rest is agreed.
use Prim.Native.Nat.{ℕ}
use mathlib.Core.Path.{◌≡◌, sym, ◌∙◌, subst}
use mathlib.Core.Bool.{true}
use mathlib.Core.List.{List, ◌++◌}
use native.Mathlib.Omega.{arith}
use Rattle.view.specs.Logic.{pick}
use Rattle.system.specs.declared.System.{System}
use Rattle.step.specs.Rest.{at_rest}
use Rattle.events.specs.Event.{Event, ran}
use Rattle.events.proofs.Moves.{ran_append}
use Rattle.settling.specs.declared.Ending.TheVariants.{Rest}
use Rattle.settling.specs.Settle.{Progress, ending_of, ended_with, settled}
use Rattle.settling.specs.Steps.{settled_events}
use Rattle.settling.proofs.Steps.{runs_to}
use Rattle.agreement.specs.Demand.{start}
use Rattle.quiet.specs.Quiet.{is_common, Final}
use Rattle.quiet.specs.AfterSettling.{SettledQuiet}
use Rattle.quiet.proofs.Theorem.{quiet_is_agreed}

-- a run that says rest leaves a system at rest
rest_is_rest : (budget : ℕ) (x : Progress) → ending_of budget x ≡ Rest → at_rest x.system ≡ true
unfolding ending_of pick
rest_is_rest budget x = grind arith

rest_said : (budget : ℕ) (s : System) → (settled budget s).ending ≡ Rest → at_rest (settled budget s).system ≡ true
unfolding settled ended_with pick
rest_said budget s = grind (arith, rest_is_rest)

pub settled_is_agreed : (budget n : ℕ) (es : List Event) → SettledQuiet budget n es
settled_is_agreed budget n es v said common =
    let s = ran (start n) es in
    let more = settled_events budget s in
    let is : ran (start n) (es ++ more) ≡ (settled budget s).system = ran_append (start n) es more ∙ runs_to budget s in
    subst (λ (t : System). Final t v) is
    (quiet_is_agreed n (es ++ more) v
    (subst (λ (t : System). at_rest t ≡ true) (sym is) (rest_said budget s said))
    (subst (λ (t : System). is_common t v ≡ true) (sym is) common))
