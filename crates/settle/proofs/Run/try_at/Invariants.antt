-- `Run::try_at`: before process q has its turn, those before it have been tried with p.
use Rattle.std.proofs.Common.{◌+◌, ◌-◌, ◌≤◌}
use Rattle.view.specs.Logic.{each_up_to}
use Rattle.settling.specs.Settle.{tried_with}
use Rattle.settle.specs.Advances.{Advances}
use Rattle.settle.proofs.Run.try_at.Given as goal

abbrev pub invariant-loop-q : goal.invariant-loop-q
invariant-loop-q l =
    (l.q ≤ l.q-end + 1) × Advances (each_up_to (l.q - 1) (tried_with l.initial.self.budget l.half l.p.0)) l.initial.self l.self
