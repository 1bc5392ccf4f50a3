-- The same of every system that a settling run (S-4) says is at rest, after any list of events.
use Rattle.std.specs.Prelude.{ℕ, ◌≡◌, true, List}
use Rattle.events.specs.Event.{Event, ran}
use Rattle.settling.specs.declared.Ending.TheVariants.{Rest}
use Rattle.settling.specs.Settle.{settled}
use Rattle.agreement.specs.Demand.{start}
use Rattle.quiet.specs.Quiet.{is_common, Final}

abbrev pub SettledQuiet : ℕ → ℕ → List Event → Type 0
SettledQuiet budget n es =
    (v : ℕ) → (settled budget (ran (start n) es)).ending ≡ Rest → is_common (settled budget (ran (start n) es)).system v ≡ true
    → Final (settled budget (ran (start n) es)).system v
