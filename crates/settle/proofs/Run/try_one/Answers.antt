-- `Run::try_one`: spent, refused or done.
use Rattle.std.proofs.Common.{refl, ◌∙◌, ap}
use Rattle.tallies.specs.Tally.{plus, capped}
use borrow.Author.Tests.{eqb-false}
use Rattle.alternatives.proofs.Carrying.{some_number}
use Rattle.settle.proofs.Laws.{spent, one_refused, one_done}
use Rattle.settle.proofs.Run.try_one.Goals as goal

pub returns-in-Ok : goal.returns-in-Ok
returns-in-Ok c =
    one_done c.args.action _ _ c.if-self.true _ (rw c.whole.ensures at c.in-Ok.ensures.step) refl refl refl refl refl
    (c.add_assign.ensures.after ∙ ap (λ t. capped (plus c.args.self.now.tally t)) (rw c.whole.ensures at c.in-Ok.ensures.tally))

pub returns-in_default : goal.returns-in_default
returns-in_default c =
    one_refused c.args.action _ _ c.if-self.true _ (rw c.whole.ensures at c.in_default.ensures.step) refl refl refl (eqb-false _ _ (some_number c.in_default.field-0)) refl refl

pub returns-else-self : goal.returns-else-self
returns-else-self c = spent _ _ c.if-self.false
