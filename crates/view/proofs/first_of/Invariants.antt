-- `view::first_members`: before process i has its turn, those before it have had theirs.
use Rattle.std.proofs.Common.{◌≡◌, ◌-◌}
use Rattle.view.specs.Logic.{each_up_to}
use Rattle.view.specs.View.{joined}
use Rattle.view.proofs.first_of.Given as goal

abbrev pub invariant-loop-i : goal.invariant-loop-i
invariant-loop-i l = l.set ≡ each_up_to (l.i - 1) (joined l.m l.view) 0
