-- `class::names::gather`: the line at the place, or nothing past the chunk's end.
use native.Mathlib.Omega.{arith}
use Rattle.class.proofs.Gathering.{line_here, taken_up_to, none_taken}
use Rattle.class.proofs.names.gather.Goals as goal

pub returns-then-chunk-at : goal.returns-then-chunk-at
returns-then-chunk-at c = none_taken _ _ _ c.if-chunk-at.true

pub overflow_sub-end : goal.overflow_sub-end
overflow_sub-end c = let here = line_here _ _ _ c.if-chunk-at.false c.next_place-next.ensures in omega (arith, here.after)

pub slice_bounds-text-count : goal.slice_bounds-text-count
slice_bounds-text-count c = let here = line_here _ _ _ c.if-chunk-at.false c.next_place-next.ensures in omega (arith, here.after)

pub slice_bounds-text-start : goal.slice_bounds-text-start
slice_bounds-text-start c = let here = line_here _ _ _ c.if-chunk-at.false c.next_place-next.ensures in omega (arith, here.after)

pub slice_bounds-text-end : goal.slice_bounds-text-end
slice_bounds-text-end c = let here = line_here _ _ _ c.if-chunk-at.false c.next_place-next.ensures in omega (arith, here.after, here.within)

pub returns : goal.returns
returns c = rw c.then_some.ensures (taken_up_to _ _ _ _ _ c.if-chunk-at.false c.next_place-next.ensures c.text.ensures)
