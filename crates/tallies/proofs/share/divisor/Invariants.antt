-- `tallies::share::divisor`: at each turn the greatest common divisor of x and y is that of a and b.
use mathlib.Core.Path.{◌≡◌}
use Rattle.tallies.specs.Share.{gcd}
use Rattle.tallies.proofs.share.divisor.Given as goal

abbrev pub invariant-loop-y : goal.invariant-loop-y
invariant-loop-y l = gcd l.x l.y ≡ gcd l.a l.b

abbrev pub decreases-loop-y : goal.decreases-loop-y
decreases-loop-y l = l.y
