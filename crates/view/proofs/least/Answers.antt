-- `view::least`: the checker computes the count of each of the 256 views and holds it to the rule.
use Prim.Native.Nat.{ℕ, ◌+◌, ◌<◌}
use mathlib.Core.Path.{◌≡◌, refl, ap}
use mathlib.Core.Bool.{◌||◌}
use mathlib.Core.Logic.{⊎_elim}
use native.Mathlib.Omega.{arith}
use borrow.Author.Tests.{eqb-true}
use lib.Count.{count_trailing_zeros, trailing_le}
use lib.Dec.{eqb}
use Rattle.view.specs.declared.ProcessId.{ProcessId}
use Rattle.view.specs.Logic.{pick}
use Rattle.view.specs.View.{has, first_from, least_of}
use Rattle.view.proofs.Laws.{or_cases}
use Rattle.view.proofs.Table.{below}
use Rattle.view.proofs.least.Goals as goal

abbrev process : ℕ → ProcessId
process k = record { 0 = k }

-- the rule of the views that are not empty, over all 256 of them
zeros-counted : (v : ℕ) → v < 256 → (v ≡ 0 → ⊥) → count_trailing_zeros 8 v + 1 ≡ first_from 8 1 v
unfolding first_from has pick count_trailing_zeros
zeros-counted v h some =
    ⊎_elim
    (λ none. absurd (some (eqb-true v 0 none)))
    (λ e. eqb-true (count_trailing_zeros 8 v + 1) (first_from 8 1 v) e)
    (or_cases (eqb v 0) (eqb (count_trailing_zeros 8 v + 1) (first_from 8 1 v)) (below 256 (λ w. eqb w 0 || eqb (count_trailing_zeros 8 w + 1) (first_from 8 1 w)) refl v h))

pub overflow_add-result : goal.overflow_add-result
overflow_add-result c = omega (arith, trailing_le 8 c.args.view)

pub overflow_cast-result : goal.overflow_cast-result
overflow_cast-result c = omega (arith, trailing_le 8 c.args.view)

pub returns-then-view-eq0 : goal.returns-then-view-eq0
unfolding least_of first_from has pick
returns-then-view-eq0 c = let none : c.args.view ≡ 0 = c.if-view-eq0.true in rw none

pub returns-else-view-eq0 : goal.returns-else-view-eq0
unfolding least_of
returns-else-view-eq0 c = ap process (zeros-counted _ c.ranges.view.fits c.if-view-eq0.false)
