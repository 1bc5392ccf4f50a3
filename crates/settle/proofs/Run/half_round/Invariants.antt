-- `Run::half_round`: before process p has its turn, those before it have had theirs.
use Rattle.std.proofs.Common.{◌+◌, ◌-◌, ◌≤◌}
use Rattle.view.specs.Logic.{each_up_to}
use Rattle.settling.specs.Settle.{tried_at}
use Rattle.settle.specs.Advances.{Advances}
use Rattle.settle.proofs.Run.half_round.Given as goal

abbrev pub invariant-loop-p : goal.invariant-loop-p
invariant-loop-p l =
    (l.p ≤ l.p-end + 1) × Advances (each_up_to (l.p - 1) (tried_at l.initial.self.budget l.half l.initial.self.n)) l.initial.self l.self
