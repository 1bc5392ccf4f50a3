-- Document 01: "Between every ordered pair of units .. runs one line. It holds 0 to 8 messages, first in, first out."
-- A line is called a channel here, as in the paper.
use Rattle.std.specs.Prelude.{◌+◌, ◌-◌, Bool, List, [], ◌∷◌, ◌++◌, Option, None, Some, ltb, take, drop, set, replicate}
use Rattle.view.specs.Logic.{pick}
use Rattle.channel.specs.declared.Message.{Message}
use Rattle.channel.specs.declared.Message.TheVariants.{Propose}
use Rattle.channel.specs.declared.Channel.{Channel}

-- what stands in a slot that holds no message
abbrev pub blank : Message
blank = Propose 0 (record { 0 = 0 })

unfoldable pub empty_channel : Channel
empty_channel = record { slots = replicate 8 blank; len = 0 }

-- the messages that wait, oldest first. What lies past the length is no part of the table
unfoldable pub waiting : Channel → List Message
waiting c = take c.len c.slots

abbrev pub front_of : List Message → Option Message
front_of [] = None
front_of (m ∷ ms) = Some m

-- the oldest message, if one waits
abbrev pub front : Channel → Option Message
front c = front_of (waiting c)

abbrev pub has_room : Channel → Bool
has_room c = ltb c.len 8

-- the message is put at the end, where there is room
unfoldable pub pushed : Channel → Message → Channel
pushed c m = pick (has_room c) (record { slots = set c.slots c.len m; len = c.len + 1 }) c

-- the oldest message comes off, where there is one: the others move up one slot, and the last slot keeps what it had
unfoldable pub popped : Channel → Channel
popped c = pick (ltb 0 c.len) (record { slots = drop 1 c.slots ++ drop 7 c.slots; len = c.len - 1 }) c
