-- `Run::rounds`: before each round there are rounds enough ahead.
use Rattle.std.proofs.Common.{◌-◌}
use Rattle.settle.proofs.Laws.{Ahead}
use Rattle.settle.proofs.Run.rounds.Given as goal

abbrev pub invariant-loop-self : goal.invariant-loop-self
invariant-loop-self l = Ahead l.initial.self l.self

abbrev pub decreases-loop-self : goal.decreases-loop-self
decreases-loop-self l = l.self.budget - l.self.steps
