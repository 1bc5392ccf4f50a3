-- `codec::encode`: by the length; the count, then process after process, then channel after channel, then the sets of trust.
use Rattle.std.proofs.Common.{refl, ◌∙◌, eq-eqb, ne_eqb, arith}
use Rattle.view.specs.Logic.{pick}
use Rattle.view.proofs.Laws.{long}
use Rattle.image.specs.Image.{encoded}
use Rattle.codec.proofs.Laws.{rows_written, one_written, more_written, all_written}
use Rattle.codec.proofs.encode.Goals as goal

pub returns-after-loop-k : goal.returns-after-loop-k
unfolding encoded pick
returns-after-loop-k c =
    let processes = rows_written c.loop-i.invariant (omega arith) (search long) in
    let channels = rows_written c.loop-k.invariant (omega arith) (search long) in
    let first = one_written _ c.args.s.n c.if-image-eq-IMAGE.true (omega arith) in
    let both = more_written {k = 496} first (c.copy_from_slice.ensures.after ∙ c.as_flattened.ensures.value ∙ processes) (omega arith) refl (omega arith) in
    let most = more_written {k = 1600} both (c.copy_from_slice-then-image-eq-IMAGE.ensures.after ∙ c.as_flattened-then-image-eq-IMAGE.ensures.value ∙ channels) (omega arith) refl (omega arith) in
    rw (eq-eqb _ _ c.if-image-eq-IMAGE.true) (all_written (more_written most c.copy_from_slice-then-image-eq-IMAGE-2.ensures.after (omega arith) (omega arith) (omega arith)))

pub returns-else-image-eq-IMAGE : goal.returns-else-image-eq-IMAGE
unfolding pick
returns-else-image-eq-IMAGE c = rw (ne_eqb _ _ c.if-image-eq-IMAGE.false)
