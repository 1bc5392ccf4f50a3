-- `Cursor::text`: after some bytes of the text, the rest of it is still to be read.
use Rattle.std.proofs.Common.{◌≡◌, drop}
use Rattle.sheet.specs.Cursor.{text_at}
use Rattle.sheet.proofs.cursor.Cursor.text.Given as goal

abbrev pub invariant-loop-b : goal.invariant-loop-b
invariant-loop-b l =
    (l.self.line ≡ l.fn.self.line)
    × (text_at l.text l.fn.self.line.now l.fn.self.at ≡ text_at (drop l.b-index l.text) l.self.line.now l.self.at)
