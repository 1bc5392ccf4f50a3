-- A whole sheet. Document 01: "`u N` first and only first"; "Anything else, an empty line too, is refusal 8; if the first line is,
-- so is every line after it. A refused line does not end the run." "For each line after a good first line the program prints its
-- line number in the sheet, a space and the refusal number or 0. A bad first line and every line after it are printed the same
-- way. Then for each unit, rising [its line]. With no table there are no unit lines; an empty sheet prints nothing. A long sheet
-- prints the single line `0 9`." Document 02: "For a bad sheet line the program adds the column".
use Rattle.std.specs.Prelude.{ℕ, suc, ◌≡◌, Bool, true, List, [], ◌∷◌, ◌++◌, ltb, length, Result, Ok, Err}
use Rattle.view.specs.Logic.{pick, at}
use Rattle.tallies.specs.declared.Tally.{Tally}
use Rattle.tallies.specs.Tally.{no_tally, plus, capped}
use Rattle.system.specs.declared.System.{System}
use Rattle.system.specs.Outcome.{Outcome}
use Rattle.system.specs.Fresh.{fresh_system}
use Rattle.step.specs.Step.{stepped}
use Rattle.events.specs.Counts.{done_tally, still_waiting}
use Rattle.settling.specs.declared.Ending.{Ending}
use Rattle.settling.specs.declared.Ending.TheVariants.{Rest, Held, Budget}
use Rattle.settling.specs.Settle.{Settled, settled, settled_tally, settling_budget}
use Rattle.print.specs.Text.{bytes}
use Rattle.print.specs.declared.Page.{Page}
use Rattle.print.specs.Page.{typed_on}
use Rattle.print.specs.Print.{three_numbers, numbered_line, column_line, unit_lines}
use Rattle.sheet.specs.declared.parse.BadFrom.{BadFrom}
use Rattle.sheet.specs.declared.parse.Line.{Line}
use Rattle.sheet.specs.declared.parse.Line.TheVariants.{Step, Settle}
use Rattle.sheet.specs.Lines.{lines_of}
use Rattle.sheet.specs.Parse.{Meaning, meaning_first, meaning, opened, parsed}

-- what is printed for a line, the system after it, and what it counts (S-7)
pub record Printed : Type 0 where
  pub text : List ℕ
  pub system : System
  pub tally : Tally

-- a step: its number
unfoldable pub answered : ℕ → Tally → Outcome → Printed
answered k t o = record { text = numbered_line k o.refusal; system = o.system; tally = t }

-- line k, which is bad: its number, and its value, the column
unfoldable pub bad_line : ℕ → Meaning → List ℕ
bad_line k m = column_line k m.number (at m.values 1 0)

-- "`rest`, `held` or `budget`", after a space
unfoldable pub ending_text : Ending → List ℕ
ending_text Rest = bytes " rest\n"
ending_text Held = bytes " held\n"
ending_text Budget = bytes " budget\n"

-- Document 01, "Layouts": "Settling (S-4): the sheet line `q`; after its 0 the program prints the steps done and `rest`, `held` or
-- `budget`."
unfoldable pub settled_as : ℕ → Tally → Settled → Printed
settled_as k t o = record { text = three_numbers k o.refusal o.steps ++ ending_text o.ending; system = o.system; tally = t }

-- line k after a good first line: its step, a settling run, or 8 and the column
unfoldable pub line_done : ℕ → System → Result Line BadFrom → Printed
line_done k s (Err bad) = record { text = bad_line k (meaning (Err bad)); system = s; tally = no_tally }
line_done k s (Ok (Step o)) = answered k (done_tally s o) (stepped s o)
line_done k s (Ok Settle) = settled_as k (settled_tally settling_budget s) (settled settling_budget s)

-- what the program does for a line: its text is typed, the system is as it says, and so is what it counts, where that is asked for
pub record Done (counting : Bool) (x : Printed) (before after : Page) (s : System) (counted : Tally) : Type 0 where
  pub text : after ≡ typed_on before x.text
  pub system : s ≡ x.system
  pub tally : counting ≡ true → counted ≡ x.tally

-- a line, and what is printed after it
unfoldable pub printed_then : Printed → (System → List ℕ) → List ℕ
printed_then x rest = x.text ++ rest x.system

-- the lines from number k on, of a sheet that runs on system s
unfoldable pub printed_from : ℕ → System → List (List ℕ) → List ℕ
printed_from k s [] = unit_lines s
printed_from k s (l ∷ ls) = printed_then (line_done k s (parsed l)) (λ t. printed_from (suc k) t ls)

-- the lines from number k on, after a bad first line: "Each line after a bad first line has column 0."
unfoldable pub bad_from : ℕ → List (List ℕ) → List ℕ
bad_from k [] = []
bad_from k (l ∷ ls) = column_line k 8 0 ++ bad_from (suc k) ls

-- a good first line starts a fresh system; a bad one has its own column
unfoldable pub started_by : Result ℕ BadFrom → List (List ℕ) → List ℕ
started_by (Ok n) ls = printed_from 2 (fresh_system n) ls
started_by (Err bad) ls = bad_line 1 (meaning_first (Err bad)) ++ bad_from 2 ls

unfoldable pub lines_output : List (List ℕ) → List ℕ
lines_output [] = []
lines_output (l ∷ ls) = started_by (opened l) ls

-- refusal 9: "a sheet of more than 60,000 bytes"
abbrev pub sheet_limit : ℕ
sheet_limit = 60000

-- the room that is enough for what is printed for any sheet (`output-length`)
abbrev pub output_limit : ℕ
output_limit = 603400

unfoldable pub output : List ℕ → List ℕ
output sheet = pick (ltb sheet_limit (length sheet)) (bytes "0 9\n") (lines_output (lines_of sheet))

-- ---- S-7: what a sheet counts
-- a line is added to what was counted before it
unfoldable pub tallied_then : Tally → Printed → (Tally → System → Tally) → Tally
tallied_then a x rest = rest (capped (plus a x.tally)) x.system

-- the lines from number k on, of a sheet that runs on system s, where a was counted before them; and in the end what still waits
unfoldable pub tallied_from : ℕ → Tally → System → List (List ℕ) → Tally
tallied_from k a s [] = capped (plus a (still_waiting s))
tallied_from k a s (l ∷ ls) = tallied_then a (line_done k s (parsed l)) (λ b t. tallied_from (suc k) b t ls)

unfoldable pub tallied_by : Result ℕ BadFrom → List (List ℕ) → Tally
tallied_by (Ok n) ls = tallied_from 2 no_tally (fresh_system n) ls
tallied_by (Err bad) ls = no_tally

unfoldable pub lines_tally : List (List ℕ) → Tally
lines_tally [] = no_tally
lines_tally (l ∷ ls) = tallied_by (opened l) ls

-- a long sheet counts nothing, nor does an empty one, nor one with a bad first line
unfoldable pub sheet_tally : List ℕ → Tally
sheet_tally sheet = pick (ltb sheet_limit (length sheet)) no_tally (lines_tally (lines_of sheet))
