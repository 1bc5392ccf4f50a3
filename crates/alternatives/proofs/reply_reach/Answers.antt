-- `alternatives::reply_reach`: its one addressee stands for all.
use mathlib.Core.Path.{◌∙◌, ap}
use Rattle.std.specs.Prelude.{Err}
use Rattle.std.proofs.lemmas.Result.{err_from_is_err_and}
use Rattle.alternatives.proofs.Answering.{then_reached, reply_room}
use Rattle.alternatives.proofs.reply_reach.Goals as goal

pub returns-in_err-require_room : goal.returns-in_err-require_room
returns-in_err-require_room c =
    let e = err_from_is_err_and _ c.from_residual-in_err-require_room.ensures.1 in
    e.1 ∙ ap Err e.2
    ∙ ap (then_reached c.in_ok-reach.reach) c.in_err-require_room.ensures
    ∙ reply_room _ _ _ _ _ _ _ c.with.ensures c.in_ok-reach.ensures (rw c.facing-c.ensures at c.takes_if_named.ensures)

pub returns : goal.returns
returns c =
    ap (then_reached c.in_ok-reach.reach) c.in_ok-require_room.ensures
    ∙ reply_room _ _ _ _ _ _ _ c.with.ensures c.in_ok-reach.ensures (rw c.facing-c.ensures at c.takes_if_named.ensures)
