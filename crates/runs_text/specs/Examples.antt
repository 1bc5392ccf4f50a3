-- Worked inputs of the program `runs`, with what is printed for each; the counts of deeper walks are computed in crate exhaustive.
use Rattle.std.specs.Prelude.{ℕ, List, [], ◌∷◌, Ok}
use Prim.Native.String.{String}
use Rattle.print.specs.Text.{bytes}
use Rattle.runs_text.specs.RunsText.{walk_text, runs_output}

pub record Asking : Type 0 where
  pub prints : List ℕ
  pub expected : String

infix 80 ◌prints◌
abbrev ◌prints◌ : String → String → Asking
input prints output = record { prints = runs_output (bytes input); expected = output }

abbrev pub askings : List Asking
askings =
    -- a run of no turn, with the line feed and without
    "1 0\n" prints "1 0\n"
    ∷ "2 0" prints "1 0\n"
    -- "8 for any other input"
    ∷ "" prints "8\n"
    ∷ "\n" prints "8\n"
    ∷ "1" prints "8\n"
    ∷ "1 " prints "8\n"
    ∷ "1 8 " prints "8\n"
    ∷ "1 8\n\n" prints "8\n"
    ∷ "1 8\r\n" prints "8\n"
    ∷ "1 10" prints "8\n"
    ∷ "10 1" prints "8\n"
    ∷ "1  8" prints "8\n"
    ∷ "1\t8\n" prints "8\n"
    ∷ " 1 8" prints "8\n"
    ∷ "x 8" prints "8\n"
    ∷ "1 x" prints "8\n"
    ∷ ": 8" prints "8\n"
    ∷ "1 /" prints "8\n"
    -- 2 before 14
    ∷ "0 0" prints "2\n"
    ∷ "0 9" prints "2\n"
    ∷ "9 9\n" prints "2\n"
    -- "for depth above 8 or more than 2 units"
    ∷ "1 9" prints "14\n"
    ∷ "2 9" prints "14\n"
    ∷ "3 0" prints "14\n"
    ∷ "8 9\n" prints "14\n"
    -- two counts
    ∷ (record { prints = walk_text (Ok (record { runs = 36461; entered = 124 })); expected = "36461 124\n" })
    ∷ []

abbrev pub printed_for : Asking → List ℕ
printed_for a = a.prints

unfoldable pub expected_for : Asking → List ℕ
expected_for a = bytes a.expected
