-- `view::minus` is its definition.
use mathlib.Core.Path.{refl}
use Rattle.view.specs.View.{minus}
use Rattle.view.proofs.minus.Goals as goal

pub returns : goal.returns
unfolding minus
returns c = refl
