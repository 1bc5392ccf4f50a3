-- `codec::read_process`: the variables, record by record, and the history.
use Rattle.std.proofs.Common.{◌≡◌, ◌∙◌, rules, take, drop, arith}
use Rattle.view.specs.Logic.{pick}
use Rattle.image.specs.Image.{variables_width, records_place, history_place, variables_of, variables_in}
use Rattle.image.proofs.Laws.{of_taken}
use Rattle.image.proofs.Parts.{variables_local, record_local}
use Rattle.codec.proofs.Laws.{rows_made, bytes_made, same_process}
use Rattle.codec.proofs.read_process.Goals as goal

pub returns : goal.returns
unfolding variables_in variables_of pick
returns c =
    let b = c.args.bytes.now in
    let variables : c.unwrap.result.now ≡ take variables_width b = search rules in
    let made : c.variables_of.result ≡ variables_in b = c.variables_of.ensures ∙ rw (variables, of_taken variables_local b) in
    same_process
    b
    _
    _
    _
    (grind (arith, made))
    (rows_made record_local 8 (drop records_place b) c.from_fn.ensures.items (λ i x q k. search rules) c.as_chunks.ensures.front (omega arith))
    (bytes_made _ 32 (drop history_place b) c.first_chunk-2.ensures.cases c.unwrap-2.ensures (omega arith))
