-- `codec::channel_bytes`: the messages before slot i are written.
use Rattle.image.specs.Image.{message_bytes}
use Rattle.codec.proofs.Laws.{Made}
use Rattle.codec.proofs.channel_bytes.Given as goal

abbrev pub invariant-loop-i : goal.invariant-loop-i
invariant-loop-i l = Made 8 message_bytes l.message-items l.slots l.i
