-- `run::all_bad`: what is on the page, then the rest of the lines, is the whole.
use Rattle.std.proofs.Common.{◌≡◌, [], inl, inr, ap, ◌∙◌, refl, length, arith}
use Rattle.std.specs.Iterator.Adapters.{zip_second}
use Rattle.sheet.specs.Reader.{lines_left}
use Rattle.run.proofs.Laws.{few_left, bad_begins, bad_again, bad_end}
use Rattle.run.proofs.all_bad.Goals as goal

pub loop-number-init : goal.loop-number-init
loop-number-init c =
    rw (c.into_iter-number-iterator.ensures.into_iter_gives, c.zip-number-items.ensures.first, c.zip-number-items.ensures.second)
    (record { can_next = (tt, tt); ends = tt; few = omega (arith, c.requires, few_left c.args.lines.sheet.now c.args.lines.at); printed = refl })

pub loop-number-preserved : goal.loop-number-preserved
loop-number-preserved c =
    let i = c.loop-number.invariant in
    let step = c.in-Some.ensures.steps in
    record {
      can_next = (tt, tt);
      ends = tt;
      few = let fewer = ap length step.1.0 in omega (arith, i.few, step.0);
      printed = rw (step.0.1, step.0.0) (bad_again _ _ _ _ _ _ _ step.1.0 i.printed (rw (← step.0.0) c.column-in-loop-number.ensures));
    }

pub returns : goal.returns
returns c =
    let i = c.loop-number.invariant in
    let none : lines_left (zip_second c.loop-number.number-iterator) ≡ [] = elim c.in-None.ensures.steps [ inl w ↦ absurd (omega (arith, i.few, w.1.0)) | inr w ↦ w.1.0.0 ] in
    bad_end _ _ _ _ none (bad_begins _ _ _ _ c.column.ensures ∙ i.printed)
