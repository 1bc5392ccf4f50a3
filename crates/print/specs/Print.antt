-- What is printed. Document 01: "For each line .. the program prints its line number in the sheet, a space and the refusal
-- number or 0. .. Then for each unit, rising: `unit`, its number, `live` or `stopped`, `next`, Next, and for each non-empty
-- position `position=view`."
use Rattle.std.specs.Prelude.{ℕ, min, List, [], ◌++◌, eqb}
use Rattle.view.specs.Logic.{pick}
use Rattle.system.specs.declared.History.{History}
use Rattle.system.specs.declared.Process.{Process}
use Rattle.system.specs.declared.System.{System}
use Rattle.system.specs.Process.{entry_at}
use Rattle.system.specs.System.{process_at}
use Rattle.print.specs.Text.{bytes, text_up_to, decimal, view_text}

abbrev pub numbers : ℕ → ℕ → List ℕ
numbers line number = decimal line ++ bytes " " ++ decimal number

unfoldable pub numbered_line : ℕ → ℕ → List ℕ
numbered_line line number = numbers line number ++ bytes "\n"

-- with a third number after a space: document 02, of a bad line, "The column stands after the 8 and a space."; document 01, of `q`, "after
-- its 0 the program prints the steps done"
abbrev pub three_numbers : ℕ → ℕ → ℕ → List ℕ
three_numbers line number third = numbers line number ++ bytes " " ++ decimal third

unfoldable pub column_line : ℕ → ℕ → ℕ → List ℕ
column_line line number column = three_numbers line number column ++ bytes "\n"

-- `position=view`, for a view that is not empty
unfoldable pub entry_text : ℕ → ℕ → List ℕ
entry_text i v = pick (eqb v 0) [] (bytes " " ++ decimal i ++ bytes "=" ++ view_text v)

unfoldable pub entry_text_at : History → ℕ → List ℕ
entry_text_at h i = entry_text i (entry_at h i)

unfoldable pub history_text : History → List ℕ
history_text h = text_up_to 32 (entry_text_at h)

unfoldable pub unit_line : ℕ → Process → List ℕ
unit_line k p =
    bytes "unit "
    ++ decimal k
    ++ pick p.variables.crashed (bytes " stopped") (bytes " live")
    ++ bytes " next "
    ++ decimal p.variables.next.0
    ++ history_text p.history
    ++ bytes "\n"

unfoldable pub unit_of : System → ℕ → List ℕ
unit_of s k = unit_line k (process_at s k)

-- "for each unit, rising"; a system has at most eight
unfoldable pub unit_lines : System → List ℕ
unit_lines s = text_up_to (min 8 s.n) (unit_of s)
