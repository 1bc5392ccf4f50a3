-- `image::put_trust`: the byte of that set.
use Rattle.image.proofs.Changes.{set_put}
use Rattle.image.proofs.put_trust.Goals as goal

pub returns : goal.returns
returns c = set_put _ _ _ _ _ c.trust_place-at.ensures.place c.trust_place-at.ensures.within c.write.ensures
