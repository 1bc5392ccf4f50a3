-- `fresh::put_fresh`: process by process.
use Rattle.std.proofs.Common.{refl, ap, ◌∙◌, arith, eq-eqb, ne_eqb}
use Rattle.view.specs.Logic.{pick, each_up_to}
use Rattle.view.proofs.Laws.{each_next, all_done}
use Rattle.image.proofs.Parts.{changes, stays}
use Rattle.fresh.specs.Fresh.{with_fresh}
use Rattle.fresh.proofs.Blank.{all_fresh}
use Rattle.fresh.proofs.put_fresh.Goals as goal

pub loop-p-init : goal.loop-p-init
unfolding each_up_to
loop-p-init c = record { long = refl; so_far = c.put_blank.ensures }

pub loop-p-preserved : goal.loop-p-preserved
loop-p-preserved c =
    let l = c.loop-p.invariant in
    record {
      long = c.put_process.auto.image ∙ l.long;
      so_far = c.put_process.ensures ∙ ap (with_fresh _ _) l.so_far ∙ each_next _ _ _ c.loop-p.auto.p;
    }

pub returns-after-loop-p : goal.returns-after-loop-p
unfolding pick
returns-after-loop-p c =
    changes c.if-image-eq-IMAGE.true
    (rw (eq-eqb _ _ c.if-image-eq-IMAGE.true) (rw (all_done _ 8 (omega arith) c.loop-p-test.false) at c.loop-p.invariant.so_far ∙ all_fresh _))

pub returns-else-image-eq-IMAGE : goal.returns-else-image-eq-IMAGE
unfolding pick
returns-else-image-eq-IMAGE c = stays (simp (ne_eqb _ _ c.if-image-eq-IMAGE.false))
