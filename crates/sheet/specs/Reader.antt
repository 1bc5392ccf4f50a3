-- The sheet reader. Document 01: "A sheet reader stays with the sheet it was opened on and gives out one line after another."
use Rattle.std.specs.Prelude.{◌≡◌, ℕ, List, Option, drop}
use Rattle.std.specs.Borrow.{Bor}
use Rattle.std.specs.Iterator.{YieldsFirstRef}
use Rattle.sheet.specs.declared.reader.SheetReader.{SheetReader}
use Rattle.sheet.specs.Lines.{next_place, lines_of}

-- the lines that it has still to give out: those from its place on
abbrev pub lines_left : SheetReader → List (List ℕ)
lines_left r = lines_of (drop r.at r.sheet.now)

-- a call gives out the first of them, or none where none is left; the reader stays with its sheet, and goes on to the place of the next line
abbrev pub GivesLine : SheetReader → Option (Bor (List ℕ)) → SheetReader → Type 0
GivesLine r line s = YieldsFirstRef lines_left r line s × (s.sheet ≡ r.sheet) × (s.at ≡ next_place r.sheet.now r.at)
