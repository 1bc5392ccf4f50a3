-- `list::perform_all`: as many orders are obeyed as there were turns, and the others are still to come.
use Prim.Native.Nat.{◌<◌, min}
use mathlib.Core.Path.{◌≡◌, ◌∙◌}
use native.Mathlib.Omega.{arith}
use lib.ListN.{length}
use lib.Seq.{set-get_or}
use Rattle.list.specs.List.{order_count}
use Rattle.list.proofs.Lists.{same_order, next_piece, one_left, none_left, one_further, still_kept, performed}
use Rattle.list.proofs.perform_all.Goals as goal

pub loop-number-preserved : goal.loop-number-preserved
loop-number-preserved c =
    let l = c.loop-number.invariant in
    let a = c.args in
    let i = c.loop-number.number-index in
    let steps = c.in-Some.ensures.steps in
    let piece = steps.1 in
    let four = rw l.0 at piece.1 in
    let room : i < length c.loop-number.numbers = omega arith in
    let more : i < min (length a.numbers.now) (order_count a.list.now) = omega (arith, one_left a.list.now _ _ _ i l.1 piece.0 four piece.2) in (
      steps.0 ∙ l.0,
      next_piece a.list.now _ _ _ i l.1 piece.0 four,
      c.obey.ensures.stays,
      one_further _ _ _ _ i _ _ _ _ _ more room (same_order a.list.now _ _ _ i l.1 piece.0 four) (rw c.number_of.ensures c.obey.ensures.gives.outcome) l.3,
      still_kept _ _ _ _ i _ room l.4 (rw c.number_of.ensures c.obey.ensures.gives.kept),
    )

pub returns-after-loop-number : goal.returns-after-loop-number
returns-after-loop-number c =
    let l = c.loop-number.invariant in
    let a = c.args in
    let end : c.loop-number.number-index ≡ min (length a.numbers.now) (order_count a.list.now) = omega (arith, l.3.within, l.3.long) in
    performed _ _ _ _ _ _ _ (rw c.div_ceil.ensures at c.min-total.ensures) end l.3 l.4

pub returns-in_default : goal.returns-in_default
returns-in_default c =
    let l = c.loop-number.invariant in
    let a = c.args in
    let i = c.loop-number.number-index in
    let none = none_left a.list.now i (rw l.1 at c.in_default.ensures.steps.1.0) in
    let end : i ≡ min (length a.numbers.now) (order_count a.list.now) = omega (arith, l.3.within) in
    rw set-get_or (performed _ _ _ _ _ _ _ (rw c.div_ceil.ensures at c.min-total.ensures) end l.3 l.4)
