-- S-7: "Each count is defined from the steps done". What a sheet counts is the tally of its events; and no count of a class passes the end of
-- its eight bytes.
use Rattle.std.specs.Prelude.{ℕ, ◌+◌, ◌≤◌, ◌≡◌, List, [], ◌∷◌, ◌++◌, length, Result, Ok, Err}
use Rattle.tallies.specs.declared.Tally.{Tally}
use Rattle.tallies.specs.Tally.{capped}
use Rattle.system.specs.declared.System.{System}
use Rattle.system.specs.Fresh.{fresh_of}
use Rattle.events.specs.Event.{Event, does, ran}
use Rattle.events.specs.Counts.{fresh_tally}
use Rattle.settling.specs.Steps.{settled_events}
use Rattle.sheet.specs.declared.parse.BadFrom.{BadFrom}
use Rattle.sheet.specs.declared.parse.Line.{Line}
use Rattle.sheet.specs.declared.parse.Line.TheVariants.{Step, Settle}
use Rattle.sheet.specs.Lines.{lines_of}
use Rattle.sheet.specs.Parse.{opened, parsed}
use Rattle.run.specs.Output.{sheet_tally, sheet_limit}
use Rattle.class.specs.Class.{Named, in_all}
use Rattle.settling.specs.Settle.{settling_budget}

-- what happens by a line of a sheet that runs on system s: a step, refused or not; a settling run's own steps, in its place; nothing by a bad
-- line
unfoldable pub line_events : System → Result Line BadFrom → List Event
line_events s (Err bad) = []
line_events s (Ok (Step o)) = does o ∷ []
line_events s (Ok Settle) = settled_events settling_budget s

-- by its lines, one after the other
unfoldable pub sheet_events : System → List (List ℕ) → List Event
sheet_events s [] = []
sheet_events s (l ∷ ls) = line_events s (parsed l) ++ sheet_events (ran s (line_events s (parsed l))) ls

-- what is counted, by a sheet of n processes whose other lines are ls
abbrev pub Accounted : ℕ → List (List ℕ) → Tally → Type 0
Accounted n ls t = t ≡ fresh_tally n (sheet_events (fresh_of n).system ls)

-- of every sheet that has a good first line and is not a long one
abbrev pub SheetAccounted : List ℕ → List ℕ → List (List ℕ) → ℕ → Type 0
SheetAccounted sheet first ls n =
    length sheet ≤ sheet_limit → lines_of sheet ≡ first ∷ ls → opened first ≡ Ok n → Accounted n ls (sheet_tally sheet)

-- sent is taken, waiting and lost
abbrev pub Even : Tally → Type 0
Even t = t.sent ≡ t.taken + t.waiting + t.lost

-- so for each sheet, and for a class in all
abbrev pub SheetEven : List ℕ → Type 0
SheetEven sheet = Even (sheet_tally sheet)

abbrev pub ClassEven : List Named → Type 0
ClassEven xs = Even (in_all xs)

-- a proposal is committed once, so that a share is at most one
abbrev pub NotOverOne : Tally → Type 0
NotOverOne t = t.committed ≤ t.proposals

abbrev pub SheetShare : List ℕ → Type 0
SheetShare sheet = NotOverOne (sheet_tally sheet)

abbrev pub ClassShare : List Named → Type 0
ClassShare xs = NotOverOne (in_all xs)

-- "up to 64 sheet names": no count passes its end
abbrev pub NoOverflow : List Named → Type 0
NoOverflow xs = length xs ≤ 64 → capped (in_all xs) ≡ in_all xs
