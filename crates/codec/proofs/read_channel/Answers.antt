-- `codec::read_channel`: bytes that are equal to zeros are zeros; else slot by slot, and the length.
use Rattle.std.proofs.Common.{◌∙◌, sym, arith, rules}
use lib.Pointwise.{bytes_decides}
use Rattle.image.specs.Image.{channel_in}
use Rattle.image.proofs.Parts.{slot_local}
use Rattle.codec.proofs.Laws.{channel_of_zeros, rows_made}
use Rattle.codec.proofs.read_channel.Goals as goal

pub returns-then-eq : goal.returns-then-eq
returns-then-eq c = c.empty.ensures ∙ sym (channel_of_zeros _ ((bytes_decides _ _).0 (sym c.eq.ensures ∙ c.if-eq.true)))

pub returns : goal.returns
unfolding channel_in
returns c = rw (rows_made slot_local 8 c.args.bytes.now c.from_fn.ensures.items (λ i x q k. search rules) c.as_chunks.ensures.front (omega arith))
