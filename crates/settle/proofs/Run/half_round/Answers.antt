-- `Run::half_round`: before process p has its turn, those before it have had theirs.
use Rattle.std.proofs.Common.{arith}
use Rattle.view.specs.Logic.{each_up_to}
use Rattle.settling.specs.Settle.{tried_at, half_done}
use Rattle.settle.proofs.Laws.{no_advance, as_begun, advance_next, advance_last, advance_done}
use Rattle.settle.proofs.Run.half_round.Goals as goal

pub loop-p-init : goal.loop-p-init
unfolding each_up_to
loop-p-init c = (omega arith, no_advance _)

pub loop-p-preserved : goal.loop-p-preserved
loop-p-preserved c =
    let i = c.loop-p.invariant.1 in
    let turn = as_begun (λ budget n. tried_at budget c.args.half n c.loop-p.p) c.args.self.now c.loop-p.self c.try_at.new.self i.same_budget i.same_size c.try_at.ensures in
    (omega arith, advance_next _ _ _ _ _ c.loop-p.auto.p i turn)

pub returns : goal.returns
unfolding half_done
returns c = advance_done _ _ _ _ _ c.loop-p.invariant.0 c.loop-p-test.false c.loop-p.invariant.1

pub returns-2 : goal.returns-2
unfolding half_done
returns-2 c =
    let i = c.loop-p.invariant.1 in
    let turn = as_begun (λ budget n. tried_at budget c.args.half n c.loop-p.p) c.args.self.now c.loop-p.self c.try_at.new.self i.same_budget i.same_size c.try_at.ensures in
    advance_last _ _ _ _ _ _ c.loop-p.auto.p (omega arith) i turn
