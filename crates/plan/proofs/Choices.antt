-- What is known of a choice.
use mathlib.Core.Path.{◌≡◌}
use Prim.Native.Nat.{◌<◌}
use Rattle.std.specs.Prelude.{Result, Ok, IfOk}
use Rattle.system.specs.declared.refusal.Refusal.{Refusal}
use Rattle.system.specs.declared.Variables.{Variables}
use Rattle.plan.specs.declared.ReportChoice.{ReportChoice}
use Rattle.plan.specs.declared.ReportChoice.TheVariants.{ProposeAfter}
use Rattle.plan.specs.Choice.{report_fits}

-- a proposal's index is in the history
pub propout_below : (x : Variables) {r : Result ReportChoice Refusal} → r ≡ Ok ProposeAfter → IfOk r (report_fits x) → x.propout.0 < 32
propout_below x told fits = rw told at fits
