-- `class::adds`: by whether a sheet was counted.
use Rattle.std.proofs.Common.{◌≡◌}
use Rattle.std.specs.Prelude.{Ok, Err}
use Rattle.std.specs.Result.{ResultUnwrapsOrElse}
use Rattle.tallies.specs.declared.Tally.{Tally}
use Rattle.tallies.specs.Tally.{no_tally}
use Rattle.run.proofs.Laws.{nothing_yet}
use Rattle.class.specs.Class.{Finding, adds_of}
use Rattle.class.proofs.adds.Goals as goal

by_finding : (New : Tally → Type 0) → ((t : Tally) → New t → t ≡ no_tally) → (f : Finding) (t : Tally) → ResultUnwrapsOrElse f New t → t ≡ adds_of f
unfolding adds_of
by_finding New none (Ok a) t e = e
by_finding New none (Err why) t e = none t e

pub returns : goal.returns
returns c = by_finding _ (λ t e. nothing_yet t e) _ _ c.unwrap_or_default.ensures
