-- `print::Page::byte`: the byte is written where there is room.
use Rattle.print.proofs.Typing.{one_byte_on, no_room_on}
use Rattle.print.proofs.Page.byte.Goals as goal

pub returns-then-at-self : goal.returns-then-at-self
returns-then-at-self c = one_byte_on _ _ c.if-at-self.true

pub returns-else-at-self : goal.returns-else-at-self
returns-else-at-self c = no_room_on _ _ c.if-at-self.false
