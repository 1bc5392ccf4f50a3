-- One more read puts its bytes after those that stand there.
use Rattle.input.proofs.Laws.{received_more, consumed_more}
use Rattle.input.proofs.read_input.Goals as goal

pub loop-done-preserved : goal.loop-done-preserved
loop-done-preserved g c =
    let so = c.loop-done.invariant in
    let more = c.in_ok-more.ensures in
    record { received = received_more so.received more.placed; bytes = consumed_more _ _ _ so.received more.placed so.bytes more.bytes }
