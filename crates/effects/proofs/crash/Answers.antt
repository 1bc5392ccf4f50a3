-- `effects::crash`: the channels from the processes below q are empty.
use mathlib.Core.Path.{refl, ◌∙◌, ap}
use native.Mathlib.Omega.{arith}
use Prim.Native.Nat.{◌-◌}
use Rattle.view.specs.Logic.{each_up_to}
use Rattle.view.proofs.Laws.{each_next, all_done}
use Rattle.system.specs.Process.{as_crashed}
use Rattle.step.specs.Step.{emptied_from, crashed_at}
use Rattle.image.proofs.Parts.{stays}
use Rattle.effects.proofs.Laws.{becomes_then}
use Rattle.effects.proofs.crash.Goals as goal

pub loop-q-init : goal.loop-q-init
unfolding each_up_to
loop-q-init c = stays refl

pub loop-q-preserved : goal.loop-q-preserved
unfolding emptied_from
loop-q-preserved c =
    becomes_then c.loop-q.invariant c.clear.ensures (ap (emptied_from _ _) c.loop-q.invariant.system ∙ each_next _ _ _ c.loop-q.auto.q)

pub returns : goal.returns
unfolding crashed_at as_crashed
returns c =
    rw (← all_done _ 8 (omega arith) c.loop-q-test.false)
    (becomes_then c.put_variables.ensures c.loop-q.invariant (ap (each_up_to (c.loop-q.q - 1) (emptied_from _)) (c.put_variables.ensures.system ∙ simp c.variables_at-x.ensures)))
