-- `Run::rounds`: before each round there are rounds enough ahead.
use Rattle.settle.proofs.Laws.{at_start, round_idle, round_more, round_less}
use Rattle.settle.proofs.Run.rounds.Goals as goal

pub loop-self-init : goal.loop-self-init
loop-self-init c = at_start _

pub returns-then-self-before : goal.returns-then-self-before
returns-then-self-before c = round_idle _ _ _ c.loop-self.invariant c.round.ensures c.if-self-before.true

pub loop-self-smaller : goal.loop-self-smaller
loop-self-smaller c = round_less _ _ _ c.loop-self.invariant c.round.ensures c.if-self-before.false

pub loop-self-preserved : goal.loop-self-preserved
loop-self-preserved c = round_more _ _ _ c.loop-self.invariant c.round.ensures c.if-self-before.false
