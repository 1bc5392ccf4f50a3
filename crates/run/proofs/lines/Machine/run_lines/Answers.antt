-- `Machine::run_lines`: what is on the page, then the rest of the lines at the system so far, is the whole.
use Rattle.std.proofs.Common.{◌≡◌, [], inl, inr, refl, sym, ◌∙◌, ap, length, arith}
use Rattle.std.specs.Iterator.Adapters.{zip_second}
use Rattle.view.proofs.Laws.{true_is_not_false}
use Rattle.sheet.specs.Reader.{lines_left}
use Rattle.tallies.specs.Tally.{no_tally}
use Rattle.run.proofs.Laws.{nothing_yet, few_left, printed_again, printed_end, tallied_again, tallied_end}
use Rattle.run.proofs.lines.Machine.run_lines.Goals as goal

pub loop-number-init : goal.loop-number-init
unfolding no_tally
loop-number-init c =
    rw (c.into_iter-number-iterator.ensures.into_iter_gives, c.zip-number-items.ensures.first, c.zip-number-items.ensures.second)
    (record {
      can_next = (tt, tt);
      ends = tt;
      few = omega (arith, c.requires, few_left c.args.lines.sheet.now c.args.lines.at);
      printed = refl;
      tallied = λ on. rw (nothing_yet c.default-tally.result c.default-tally.ensures);
    })

pub loop-number-preserved-then-counting : goal.loop-number-preserved-then-counting
loop-number-preserved-then-counting c =
    let i = c.loop-number.invariant in
    let step = c.in-Some.ensures.steps in
    let done = rw step.0.0 at c.line-one.ensures in
    record {
      can_next = (tt, tt);
      ends = tt;
      few = let fewer = ap length step.1.0 in omega (arith, i.few, step.0);
      printed = rw (step.0.1, step.0.0) (printed_again _ _ _ _ _ _ _ _ _ _ step.1.0 c.parse.ensures done.system i.printed done.text);
      tallied =
          λ on. rw (step.0.1, step.0.0)
          (tallied_again _ _ _ _ _ _ _ _ _ _ _ step.1.0 c.parse.ensures done.system (i.tallied on) (done.tally on) c.add_assign.ensures.after);
    }

pub loop-number-preserved : goal.loop-number-preserved
loop-number-preserved c =
    let i = c.loop-number.invariant in
    let step = c.in-Some.ensures.steps in
    let done = rw step.0.0 at c.line-one.ensures in
    record {
      can_next = (tt, tt);
      ends = tt;
      few = let fewer = ap length step.1.0 in omega (arith, i.few, step.0);
      printed = rw (step.0.1, step.0.0) (printed_again _ _ _ _ _ _ _ _ _ _ step.1.0 c.parse.ensures done.system i.printed done.text);
      tallied = λ on. true_is_not_false (sym on ∙ c.if-counting.false);
    }

pub returns-then-counting-2 : goal.returns-then-counting-2
returns-then-counting-2 c =
    let i = c.loop-number.invariant in
    let none : lines_left (zip_second c.loop-number.number-iterator) ≡ [] = elim c.in-None.ensures.steps [ inl w ↦ absurd (omega (arith, i.few, w.1.0)) | inr w ↦ w.1.0.0 ] in
    record {
      printed = printed_end _ _ _ _ _ _ none i.printed c.units.ensures;
      counted = λ on. tallied_end _ _ _ _ _ _ _ none (i.tallied on) c.still_waiting.ensures c.add_assign-then-counting-2.ensures.after;
    }

pub returns-else-counting-2 : goal.returns-else-counting-2
returns-else-counting-2 c =
    let i = c.loop-number.invariant in
    let none : lines_left (zip_second c.loop-number.number-iterator) ≡ [] = elim c.in-None.ensures.steps [ inl w ↦ absurd (omega (arith, i.few, w.1.0)) | inr w ↦ w.1.0.0 ] in
    record {
      printed = printed_end _ _ _ _ _ _ none i.printed c.units.ensures;
      counted = λ on. true_is_not_false (sym on ∙ c.if-counting-2.false);
    }
