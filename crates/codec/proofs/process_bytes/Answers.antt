-- `codec::process_bytes`: the variables; then record by record; then the history.
use Rattle.std.proofs.Common.{refl, sym, ◌∙◌, arith, le_of_eq}
use Rattle.view.proofs.Laws.{long}
use Rattle.image.specs.Image.{process_bytes}
use Rattle.codec.proofs.Laws.{rows_written, first_written, more_written, all_written}
use Rattle.codec.proofs.process_bytes.Goals as goal

pub slice_bounds-bytes-end-3 : goal.slice_bounds-bytes-end-3
slice_bounds-bytes-end-3 c =
    let variables = first_written {n = 62} _ refl c.copy_from_slice.ensures.len refl in
    le_of_eq (sym (more_written {k = 24} variables c.copy_from_slice-2.ensures.after (omega arith) refl (omega arith)).long)

pub returns : goal.returns
unfolding process_bytes
returns c =
    let records = rows_written c.loop-i.invariant (omega arith) (search long) in
    let first = first_written {n = 62} _ (c.copy_from_slice.ensures.after ∙ c.variables_bytes.ensures) c.copy_from_slice.ensures.len refl in
    let most = more_written {k = 24} first (c.copy_from_slice-2.ensures.after ∙ c.as_flattened.ensures.value ∙ records) (omega arith) refl (omega arith) in
    all_written (more_written {k = 32} most c.copy_from_slice-3.ensures.after (omega arith) refl (omega arith))
