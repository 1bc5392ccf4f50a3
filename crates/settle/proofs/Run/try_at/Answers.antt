-- `Run::try_at`: before process q has its turn, those before it have been tried with p.
use Rattle.std.proofs.Common.{arith}
use Rattle.view.specs.Logic.{each_up_to}
use Rattle.settling.specs.Settle.{tried, move_of, tried_with, tried_at}
use Rattle.settle.proofs.Laws.{no_advance, as_begun, advance_next, advance_last, advance_done}
use Rattle.settle.proofs.Run.try_at.Goals as goal

pub loop-q-init : goal.loop-q-init
unfolding each_up_to
loop-q-init c = (omega arith, no_advance _)

pub loop-q-preserved : goal.loop-q-preserved
unfolding tried_with
loop-q-preserved c =
    let i = c.loop-q.invariant.1 in
    let turn = as_begun (λ budget n. tried budget (move_of c.args.half c.args.p.0 c.loop-q.q)) c.args.self.now c.loop-q.self c.try_one.new.self i.same_budget i.same_size (rw c.move_of.ensures at c.try_one.ensures) in
    (omega arith, advance_next _ _ _ _ _ c.loop-q.auto.q i turn)

pub returns : goal.returns
unfolding tried_at
returns c = advance_done _ _ _ _ _ c.loop-q.invariant.0 c.loop-q-test.false c.loop-q.invariant.1

pub returns-2 : goal.returns-2
unfolding tried_at tried_with
returns-2 c =
    let i = c.loop-q.invariant.1 in
    let turn = as_begun (λ budget n. tried budget (move_of c.args.half c.args.p.0 c.loop-q.q)) c.args.self.now c.loop-q.self c.try_one.new.self i.same_budget i.same_size (rw c.move_of.ensures at c.try_one.ensures) in
    advance_last _ _ _ _ _ _ c.loop-q.auto.q (omega arith) i turn
