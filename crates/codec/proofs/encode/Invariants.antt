-- `codec::encode`: the processes before the one at i are written, and then the channels before the one at k.
use Rattle.image.specs.Image.{process_bytes, channel_bytes}
use Rattle.codec.proofs.Laws.{Made}
use Rattle.codec.proofs.encode.Given as goal

abbrev pub invariant-loop-i : goal.invariant-loop-i
invariant-loop-i l = Made 8 process_bytes l.process-items l.processes l.i

abbrev pub invariant-loop-k : goal.invariant-loop-k
invariant-loop-k l = Made 64 channel_bytes l.channel-items l.channels l.k
