-- `Channel::empty` is its definition.
use mathlib.Core.Path.{refl}
use Rattle.channel.specs.Channel.{empty_channel}
use Rattle.channel.proofs.Channel.empty.Goals as goal

pub returns : goal.returns
unfolding empty_channel
returns c = refl
