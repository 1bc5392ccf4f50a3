-- `tallies::share::share_of` is its definition, in both cases; the divisor is not 0.
use Prim.Native.Nat.{ℕ, ◌<◌}
use native.Mathlib.Omega.{arith}
use mathlib.Core.Path.{◌≡◌, sym, subst}
use Rattle.tallies.specs.Share.{gcd}
use Rattle.tallies.proofs.Lowest.{gcd_positive, without_proposals, with_proposals}
use Rattle.tallies.proofs.share.share_of.Goals as goal

-- the divisor of two numbers, of which the second is not 0
not-nothing : (a b d : ℕ) → d ≡ gcd a b → (b ≡ 0 → ⊥) → 0 < d
not-nothing a b d e h = subst (λ (z : ℕ). 0 < z) (sym e) (gcd_positive a b (omega arith))

pub nonzero_div-result : goal.nonzero_div-result
nonzero_div-result c = not-nothing _ _ _ c.divisor-d.ensures c.if-t-eq0.false

pub nonzero_div-result-else-t-eq0 : goal.nonzero_div-result-else-t-eq0
nonzero_div-result-else-t-eq0 c = not-nothing _ _ _ c.divisor-d.ensures c.if-t-eq0.false

pub returns-then-t-eq0 : goal.returns-then-t-eq0
returns-then-t-eq0 c = without_proposals _ _ c.if-t-eq0.true

pub returns-else-t-eq0 : goal.returns-else-t-eq0
returns-else-t-eq0 c = with_proposals _ _ _ c.if-t-eq0.false c.divisor-d.ensures
