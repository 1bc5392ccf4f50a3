-- `codec::channel_bytes`: message by message; then the length.
use Rattle.std.proofs.Common.{[], arith}
use Rattle.std.proofs.lemmas.List.{set_at}
use Rattle.view.proofs.Laws.{long}
use Rattle.image.specs.Image.{channel_bytes}
use Rattle.codec.proofs.Laws.{rows_written}
use Rattle.codec.proofs.channel_bytes.Goals as goal

pub returns : goal.returns
unfolding channel_bytes
returns c =
    let messages = rows_written c.loop-i.invariant (omega arith) (search long) in
    rw (← messages, ← c.as_flattened.ensures.value, ← c.copy_from_slice.ensures.after) (set_at c.copy_from_slice.new.self 0 [] c.args.c.len 24 c.copy_from_slice.ensures.len)
