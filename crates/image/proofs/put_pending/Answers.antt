-- `image::put_pending`: the three bytes of that record.
use Rattle.image.proofs.Changes.{pending_put}
use Rattle.image.proofs.put_pending.Goals as goal

pub returns : goal.returns
returns c =
    pending_put _ _ _ _ _ _ c.record_place-at.ensures.place c.record_place-at.ensures.within (rw c.pending_bytes.ensures at c.write.ensures)
