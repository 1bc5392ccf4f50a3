-- Document 01, "Layouts": "Runs (S-8): one input line `N DEPTH`, one digit each; output the two counts with a space between, or the
-- refusal number alone, 8 for any other input."
use Rattle.std.specs.Prelude.{ℕ, Bool, ◌&&◌, ◌||◌, List, ◌++◌, Result, Ok, Err, eqb, length, get_or}
use Prim.Native.Char.{code}
use Rattle.view.specs.Logic.{unless}
use Rattle.print.specs.Text.{bytes, decimal}
use Rattle.sheet.specs.Grammar.{is_digit, value_of}
use Rattle.sheet.specs.Lines.{is_feed}
use Rattle.system.specs.declared.refusal.Refusal.{Refusal}
use Rattle.system.specs.declared.refusal.Refusal.TheVariants.{BadLine}
use Rattle.system.specs.Refusal.{number}
use Rattle.orders.specs.declared.RunCounts.{RunCounts}
use Rattle.orders.specs.Orders.{walked}

-- the bytes of the longest answer (`walk_length`)
abbrev pub answer_limit : ℕ
answer_limit = 42

-- one line of three bytes, and nothing after it: "Lines end with a line feed, which the last may lack."
unfoldable pub three_bytes : List ℕ → Bool
three_bytes b = eqb (length b) 3 || (eqb (length b) 4 && is_feed (get_or b 3 0))

-- "`N DEPTH`, one digit each"; 8 comes before 2 and 14
unfoldable pub walk_for : List ℕ → Result RunCounts Refusal
walk_for b =
    unless (three_bytes b) (Err BadLine)
    (unless (is_digit "0" "9" (get_or b 0 0) && eqb (get_or b 1 0) (code " ") && is_digit "0" "9" (get_or b 2 0)) (Err BadLine)
    (walked (value_of (get_or b 0 0)) (value_of (get_or b 2 0))))

-- "the two counts with a space between, or the refusal number alone"
unfoldable pub walk_text : Result RunCounts Refusal → List ℕ
walk_text (Ok w) = decimal w.runs ++ bytes " " ++ decimal w.entered ++ bytes "\n"
walk_text (Err r) = decimal (number r) ++ bytes "\n"

-- the output for an input
unfoldable pub runs_output : List ℕ → List ℕ
runs_output input = walk_text (walk_for input)
