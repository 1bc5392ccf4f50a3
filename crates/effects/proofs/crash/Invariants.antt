-- `effects::crash`: the channels from the processes below q are empty.
use Prim.Native.Nat.{◌-◌}
use Rattle.view.specs.Logic.{each_up_to}
use Rattle.step.specs.Step.{emptied_from}
use Rattle.image.specs.Image.{system_in, Becomes}
use Rattle.effects.proofs.crash.Given as goal

abbrev pub invariant-loop-q : goal.invariant-loop-q
invariant-loop-q l = Becomes (each_up_to (l.q - 1) (emptied_from l.p.0) (system_in l.initial.image)) l.initial.image l.image
