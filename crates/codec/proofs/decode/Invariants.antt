-- `codec::decode`: the channels before the one at i are read.
use Rattle.image.specs.Image.{channel_in}
use Rattle.codec.proofs.Laws.{Made}
use Rattle.codec.proofs.decode.Given as goal

abbrev pub invariant-loop-i : goal.invariant-loop-i
invariant-loop-i l = Made 64 channel_in l.channel_rows l.channel-items l.i
