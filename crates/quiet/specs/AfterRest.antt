-- S-6: "Nurses want the page to be final." After a list of events that leaves a system at rest, as long as no report is done, whole or cut, of
-- the same view or of another: no entry changes, and the system is at rest still.
use Rattle.std.specs.Prelude.{ℕ, ◌≡◌, true, false, List, ◌++◌}
use Rattle.view.specs.declared.ProcessId.{ProcessId}
use Rattle.view.specs.View.{has}
use Rattle.system.specs.declared.System.{System}
use Rattle.system.specs.System.{entry_in}
use Rattle.plan.specs.declared.Action.TheVariants.{Report}
use Rattle.step.specs.Rest.{at_rest}
use Rattle.events.specs.Event.{Event, ran, Move, made, moves_in, AllSo}
use Rattle.agreement.specs.Demand.{start}
use Rattle.quiet.specs.Quiet.{last_non_empty, is_common, Final}

-- the move is no report
abbrev pub Unreported : System → Move → Type 0
Unreported s (made o) = (p : ProcessId) (v : ℕ) → o.action ≡ Report p v → ⊥

pub record Still (s t : System) : Type 0 where
  pub rests : at_rest t ≡ true
  pub same : (p i : ℕ) → entry_in t p i ≡ entry_in s p i

-- the claim. Reports that are refused are no moves
abbrev pub AfterRest : ℕ → List Event → List Event → Type 0
AfterRest n es more =
    at_rest (ran (start n) es) ≡ true
    → AllSo Unreported (ran (start n) es) (moves_in (ran (start n) es) more)
    → Still (ran (start n) es) (ran (start n) (es ++ more))

-- the move tells no process of the view a view
abbrev pub Untold : ℕ → System → Move → Type 0
Untold v s (made o) = (p : ProcessId) (w : ℕ) → o.action ≡ Report p w → has v p.0 ≡ false

pub record Lasting (s t : System) (v : ℕ) : Type 0 where
  pub final : Final t v
  pub last : (p : ℕ) → has v p ≡ true → last_non_empty t p ≡ last_non_empty s p

-- And as long as no process of a view as in S-6 is told a view, whatever the others are told: their last entries stay.
abbrev pub Lasts : ℕ → List Event → List Event → Type 0
Lasts n es more =
    (v : ℕ) → at_rest (ran (start n) es) ≡ true → is_common (ran (start n) es) v ≡ true
    → AllSo (Untold v) (ran (start n) es) (moves_in (ran (start n) es) more)
    → Lasting (ran (start n) es) (ran (start n) (es ++ more)) v
