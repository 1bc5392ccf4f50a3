-- `image::front_at`: the message in the first slot, where one waits.
use Rattle.std.proofs.Common.{◌≡◌, None, Some, sym, ◌∙◌, ap, arith}
use Rattle.view.specs.Logic.{at}
use Rattle.channel.specs.declared.Channel.{Channel}
use Rattle.channel.specs.Channel.{blank, waiting, front}
use Rattle.channel.proofs.Laws.{front_waits}
use Rattle.image.proofs.Shape.{slots_long}
use Rattle.image.proofs.front_at.Goals as goal

pub returns-then-length_at-gt0 : goal.returns-then-length_at-gt0
unfolding at
returns-then-length_at-gt0 c = ap Some c.message_at.ensures ∙ sym (front_waits _ blank (slots_long _ _ _) (omega (arith, c.length_at.ensures)))

no_front : (c : Channel) → c.len ≡ 0 → None ≡ front c
unfolding waiting
no_front c e = rw e

pub returns-else-length_at-gt0 : goal.returns-else-length_at-gt0
returns-else-length_at-gt0 c = no_front _ (omega (arith, c.length_at.ensures))
