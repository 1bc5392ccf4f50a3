-- The two turns: what each call asks, and what the total is after each move.
use mathlib.Core.Path.{sym, ◌∙◌, ap}
use native.Mathlib.Omega.{arith}
use Rattle.orders.specs.Orders.{run_counts_of}
use Rattle.orders.proofs.Moves.{few_views, few_link_moves, few_process_moves}
use Rattle.orders.proofs.Laws.{no_move, move_refused, move_done, turns_few, seven, sum_fits, whole_sum, last_link, last_process, link_whole, process-whole, shallower}
use Rattle.orders.proofs.+link_turn_process_turn.Goals as goal
use Rattle.orders.proofs.+link_turn_process_turn.Goals.{link_turn-then-try_move, link_turn-else-try_move, process_turn-then-try_move, process_turn-else-try_move}

-- ---- the link's turn
pub link_turn-returns-then-depth-eq0 : goal.link_turn-returns-then-depth-eq0
link_turn-returns-then-depth-eq0 t c = c.end_of.ensures ∙ ap (run_counts_of _) (sym (last_link _ _ _ c.if-depth-eq0.true))

pub link_turn-process_turn-total-requires : goal.link_turn-process_turn-total-requires
link_turn-process_turn-total-requires t c =
    (omega (arith, c.decreases), shallower _ _ _ _ c.requires c.requires.long c.requires.sound)

pub link_turn-loop-k-init : goal.link_turn-loop-k-init
link_turn-loop-k-init t c = (c.blank_image-copied.ensures.long, c.process_turn-total.ensures ∙ sym (no_move _ _ _ _))

pub link_turn-overflow_mul-k-end : goal.link_turn-overflow_mul-k-end
link_turn-overflow_mul-k-end t c = omega (arith, few_link_moves _ _ c.requires.few c.moves_at-each.ensures)

pub link_turn-link_move-requires : goal.link_turn-link_move-requires
link_turn-link_move-requires t c =
    let each = few_views _ _ c.requires.few c.moves_at-each.ensures in
    (each.0, each.1, omega (arith, c.loop-k-test.true, few_link_moves _ _ c.requires.few c.moves_at-each.ensures))

pub link_turn-process_turn-requires : goal.link_turn-process_turn-requires
link_turn-process_turn-requires t c =
    (omega (arith, c.decreases), shallower _ _ _ _ c.requires (c.try_move.auto.copied ∙ c.loop-k.invariant.0) c.try_move.ensures.stays)

pub link_turn-loop-k-preserved : goal.link_turn-loop-k-preserved
link_turn-loop-k-preserved t c =
    let i = c.loop-k.invariant in
    let few = turns_few _ _ c.requires.few in
    let depth = c.requires.shallow in
    let place = few_link_moves _ _ c.requires.few c.moves_at-each.ensures in
    let turn = c.loop-k-test.true in (
      c.try_move.auto.copied ∙ i.0,
      elim c.if-try_move.branch [
        | link_turn-then-try_move w ↦ w.total-is
            ∙ w.add-total.ensures ∙ whole_sum _ _ (sum_fits _ _ _ _ _ (λ s. seven _ _ (omega (arith, depth)) (few.1 s)) (omega (arith, turn, place)) _ _ i.1 _ w.process_turn.ensures)
            ∙ move_done _ _ _ _ _ _ _ _ c.try_move.ensures c.link_move.ensures _ i.1 w.if-try_move.true _ w.process_turn.ensures
        | link_turn-else-try_move w ↦ w.total-is ∙ move_refused _ _ _ _ _ _ _ _ c.try_move.ensures c.link_move.ensures _ i.1 w.if-try_move.false
      ],
    )

pub link_turn-returns : goal.link_turn-returns
link_turn-returns t c =
    c.loop-k.invariant.1
    ∙ ap (run_counts_of _) (link_whole _ _ _ _ _ c.if-depth-eq0.false c.requires.few c.moves_at-each.ensures (omega (arith, c.loop-k-test.false, c.loop-k.auto.k-end)))

-- ---- the processes' turn
pub process_turn-overflow_mul-k-end-2 : goal.process_turn-overflow_mul-k-end-2
process_turn-overflow_mul-k-end-2 t c = omega (arith, few_process_moves c.args.n c.requires.few)

pub process_turn-returns-then-depth-eq0 : goal.process_turn-returns-then-depth-eq0
process_turn-returns-then-depth-eq0 t c = c.end_of.ensures ∙ ap (run_counts_of _) (sym (last_process _ _ _ c.if-depth-eq0.true))

pub process_turn-link_turn-total-requires : goal.process_turn-link_turn-total-requires
process_turn-link_turn-total-requires t c =
    (omega (arith, c.decreases), shallower _ _ _ _ c.requires c.requires.long c.requires.sound)

pub process_turn-loop-k-init : goal.process_turn-loop-k-init
process_turn-loop-k-init t c = (c.blank_image-copied.ensures.long, c.link_turn-total.ensures ∙ sym (no_move _ _ _ _))

pub process_turn-link_turn-requires : goal.process_turn-link_turn-requires
process_turn-link_turn-requires t c =
    (omega (arith, c.decreases), shallower _ _ _ _ c.requires (c.try_move.auto.copied ∙ c.loop-k.invariant.0) c.try_move.ensures.stays)

pub process_turn-loop-k-preserved : goal.process_turn-loop-k-preserved
process_turn-loop-k-preserved t c =
    let i = c.loop-k.invariant in
    let few = turns_few _ _ c.requires.few in
    let depth = c.requires.shallow in
    let place = few_process_moves c.args.n c.requires.few in
    let turn = c.loop-k-test.true in (
      c.try_move.auto.copied ∙ i.0,
      elim c.if-try_move.branch [
        | process_turn-then-try_move w ↦ w.total-is
            ∙ w.add-total.ensures ∙ whole_sum _ _ (sum_fits _ _ _ _ _ (λ s. seven _ _ (omega (arith, depth)) (few.0 s)) (omega (arith, turn, place)) _ _ i.1 _ w.link_turn.ensures)
            ∙ move_done _ _ _ _ _ _ _ _ c.try_move.ensures c.process_move.ensures _ i.1 w.if-try_move.true _ w.link_turn.ensures
        | process_turn-else-try_move w ↦ w.total-is ∙ move_refused _ _ _ _ _ _ _ _ c.try_move.ensures c.process_move.ensures _ i.1 w.if-try_move.false
      ],
    )

pub process_turn-returns : goal.process_turn-returns
process_turn-returns t c =
    c.loop-k.invariant.1
    ∙ ap (run_counts_of _) (process-whole _ _ _ _ c.if-depth-eq0.false c.requires.few (omega (arith, c.loop-k-test.false, c.loop-k.auto.k-end)))
