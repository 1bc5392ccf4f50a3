-- `codec::process_bytes`: what is recorded from the processes before the one at i is written.
use Rattle.image.specs.Image.{pending_bytes}
use Rattle.codec.proofs.Laws.{Made}
use Rattle.codec.proofs.process_bytes.Given as goal

abbrev pub invariant-loop-i : goal.invariant-loop-i
invariant-loop-i l = Made 8 pending_bytes l.proposal-items l.records l.i
