-- `image::clear`: the bytes of that channel.
use Rattle.image.proofs.Changes.{empty_put}
use Rattle.image.proofs.clear.Goals as goal

pub returns : goal.returns
returns c = empty_put _ _ _ _ _ c.channel_place-at.ensures.place c.channel_place-at.ensures.within c.write.ensures
