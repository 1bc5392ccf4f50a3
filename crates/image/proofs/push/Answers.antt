-- `image::push`: the length, and the three bytes of the slot after the last message.
use Rattle.std.proofs.Common.{sym, ◌∙◌, arith}
use Rattle.image.proofs.Changes.{push_put, full_put, no_channel_put}
use Rattle.image.proofs.push.Goals as goal

pub returns-then-len-lt8 : goal.returns-then-len-lt8
returns-then-len-lt8 c =
    push_put _ _ c.in-Some.ensures.within _ _ (sym c.channel_place.ensures.place ∙ c.in-Some.is) _ _ _ c.if-len-lt8.true (omega (arith, c.if-len-lt8.true))
    (rw c.message_bytes.ensures at c.write.ensures)

pub returns-else-len-lt8 : goal.returns-else-len-lt8
returns-else-len-lt8 c = full_put _ _ c.in-Some.ensures.within _ _ (sym c.channel_place.ensures.place ∙ c.in-Some.is) _ c.if-len-lt8.false

pub returns-in_default : goal.returns-in_default
returns-in_default c = no_channel_put _ _ _ _ (sym c.channel_place.ensures.place ∙ c.in_default.is)
