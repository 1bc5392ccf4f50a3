-- `tallies::share::divisor`: at each turn the greatest common divisor of x and y is that of a and b.
use mathlib.Core.Path.{refl, sym, ◌∙◌, ap}
use native.Mathlib.Nat.{mod-lt}
use native.Mathlib.Omega.{arith}
use Rattle.tallies.specs.Share.{gcd}
use Rattle.tallies.proofs.Lowest.{gcd_turn, gcd-done}
use Rattle.tallies.proofs.share.divisor.Goals as goal

pub loop-y-init : goal.loop-y-init
loop-y-init c = refl

pub nonzero_rem-rest : goal.nonzero_rem-rest
nonzero_rem-rest c = omega arith

pub loop-y-smaller : goal.loop-y-smaller
loop-y-smaller c = mod-lt c.loop-y.x (omega arith)

pub loop-y-preserved : goal.loop-y-preserved
loop-y-preserved c = gcd_turn c.loop-y.x c.loop-y.y c.loop-y-test.true ∙ c.loop-y.invariant

pub returns : goal.returns
returns c = sym (gcd-done c.loop-y.x) ∙ ap (λ y. gcd c.loop-y.x y) (sym c.loop-y-test.false) ∙ c.loop-y.invariant
