-- `image::pop`: the length, and seven slots.
use Rattle.std.proofs.Common.{sym, ◌∙◌}
use Rattle.image.proofs.Changes.{pop_put, none_popped, no_channel_put}
use Rattle.image.proofs.pop.Goals as goal

pub returns-then-len-gt0 : goal.returns-then-len-gt0
returns-then-len-gt0 c =
    pop_put _ _ c.in-Some.ensures.within _ _ (sym c.channel_place.ensures.place ∙ c.in-Some.is) _ c.if-len-gt0.true c.copy_within.ensures.after

pub returns-else-len-gt0 : goal.returns-else-len-gt0
returns-else-len-gt0 c = none_popped _ _ c.in-Some.ensures.within _ _ (sym c.channel_place.ensures.place ∙ c.in-Some.is) c.if-len-gt0.false

pub returns-in_default : goal.returns-in_default
returns-in_default c = no_channel_put _ _ _ _ (sym c.channel_place.ensures.place ∙ c.in_default.is)
