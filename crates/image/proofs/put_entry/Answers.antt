-- `image::put_entry`: the byte of that entry.
use Rattle.std.proofs.Common.{arith}
use Rattle.image.proofs.Changes.{entry_put}
use Rattle.image.proofs.put_entry.Goals as goal

pub returns : goal.returns
returns c = entry_put _ _ _ _ _ _ (grind (arith, c)) (grind (arith, c)) c.write.ensures
