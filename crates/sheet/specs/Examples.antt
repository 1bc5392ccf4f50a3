-- Worked examples of a sheet's lines and of what a line says, with what is to come of each.
use Rattle.std.specs.Prelude.{ℕ, List, [], ◌∷◌, ◌++◌, map, Result, Ok, Err}
use Prim.Native.String.{String}
use Rattle.print.specs.Text.{bytes}
use Rattle.plan.specs.declared.Action.{Action}
use Rattle.plan.specs.declared.Action.TheVariants.{Report, Receive, Respond, Crash}
use Rattle.plan.specs.Cut.{whole, cut_after}
use Rattle.sheet.specs.declared.parse.BadFrom.{BadFrom}
use Rattle.sheet.specs.declared.parse.Line.{Line}
use Rattle.sheet.specs.declared.parse.Line.TheVariants.{Step, Settle}
use Rattle.sheet.specs.Lines.{lines_of}
use Rattle.sheet.specs.Grammar.{from_column}
use Rattle.sheet.specs.Parse.{process, opened, parsed}

-- ---- lines
pub record Split : Type 0 where
  pub sheet : String
  pub lines : List String

infix 80 ◌splits◌
abbrev ◌splits◌ : String → List String → Split
s splits ls = record { sheet = s; lines = ls }

abbrev pub split_sheets : List Split
split_sheets =
    "" splits []
    ∷ "a" splits ("a" ∷ [])
    ∷ "a\n" splits ("a" ∷ [])
    ∷ "\n" splits ("" ∷ [])
    ∷ "a\n\n" splits ("a" ∷ "" ∷ [])
    ∷ "\n\na" splits ("" ∷ "" ∷ "a" ∷ [])
    ∷ "u 2\nr 1 1\ns 2" splits ("u 2" ∷ "r 1 1" ∷ "s 2" ∷ [])
    ∷ "a\r\nb" splits ("a\r" ∷ "b" ∷ [])
    ∷ []

unfoldable pub split_of : Split → List (List ℕ)
split_of x = lines_of (bytes x.sheet)

unfoldable pub expected_lines : Split → List (List ℕ)
expected_lines x = map bytes x.lines

-- ---- what a line says
pub record Saying (A : Type 0) : Type 0 where
  pub line : List ℕ
  pub says : A

infix 80 ◌says◌
abbrev ◌says◌ : {A : Type 0} → String → A → Saying A
s says x = record { line = bytes s; says = x }

-- bad from this column on
abbrev bad : {A : Type 0} → ℕ → Result A BadFrom
bad column = Err (from_column column)

abbrev pub first_sayings : List (Saying (Result ℕ BadFrom))
first_sayings =
    "u 1" says Ok 1
    ∷ "u 8" says Ok 8
    -- a size is 1 to 8
    ∷ "u 0" says bad 3
    ∷ "u 9" says bad 3
    ∷ "u x" says bad 3
    -- breaking off
    ∷ "" says bad 1
    ∷ "u" says bad 2
    ∷ "u " says bad 3
    -- anything else
    ∷ "u 12" says bad 4
    ∷ "u 1 " says bad 4
    ∷ "u 1\r" says bad 4
    ∷ " " says bad 1
    ∷ " u 1" says bad 1
    ∷ "u  1" says bad 3
    ∷ "u\t1" says bad 2
    ∷ "U 1" says bad 1
    ∷ "x" says bad 1
    ∷ "r 1 1" says bad 1
    ∷ "q" says bad 1
    -- a fresh system is not cut
    ∷ "u 2 cut 0" says bad 4
    ∷ []

-- lines that ask for a step, by the numbers in them
abbrev report : ℕ → ℕ → Action
report p v = Report (process p) v

abbrev receive : ℕ → ℕ → Action
receive q p = Receive (process q) (process p)

abbrev respond : ℕ → ℕ → Action
respond p q = Respond (process p) (process q)

abbrev reports : ℕ → ℕ → Result Line BadFrom
reports p v = Ok (Step (whole (report p v)))

abbrev receives : ℕ → ℕ → Result Line BadFrom
receives q p = Ok (Step (whole (receive q p)))

abbrev responds : ℕ → ℕ → Result Line BadFrom
responds p q = Ok (Step (whole (respond p q)))

abbrev crashes : ℕ → Result Line BadFrom
crashes p = Ok (Step (whole (Crash (process p))))

-- cut after so many messages
abbrev is_cut : Action → ℕ → Result Line BadFrom
is_cut o k = Ok (Step (cut_after o k))

abbrev pub sayings : List (Saying (Result Line BadFrom))
sayings =
    -- each form; a process may be any digit, 0 and 9 among them, at each place
    "r 1 1" says reports 1 1
    ∷ "r 2 12345678" says reports 2 255
    ∷ "r 0 28" says reports 0 130
    ∷ "r 9 8" says reports 9 128
    ∷ "r 1 -" says reports 1 0
    ∷ "t 1 2" says receives 1 2
    ∷ "t 0 9" says receives 0 9
    ∷ "t 9 0" says receives 9 0
    ∷ "a 1 2" says responds 1 2
    ∷ "a 0 9" says responds 0 9
    ∷ "a 9 0" says responds 9 0
    ∷ "s 3" says crashes 3
    ∷ "s 0" says crashes 0
    ∷ "s 9" says crashes 9
    ∷ "q" says Ok Settle
    -- cut after any digit
    ∷ "r 1 12 cut 3" says is_cut (report 1 3) 3
    ∷ "r 1 - cut 0" says is_cut (report 1 0) 0
    ∷ "r 9 12345678 cut 9" says is_cut (report 9 255) 9
    ∷ "t 1 2 cut 0" says is_cut (receive 1 2) 0
    ∷ "t 9 0 cut 8" says is_cut (receive 9 0) 8
    ∷ "a 1 2 cut 1" says is_cut (respond 1 2) 1
    ∷ "a 0 9 cut 9" says is_cut (respond 0 9) 9
    -- a settling run stands alone
    ∷ "q " says bad 2
    ∷ "q cut 0" says bad 2
    ∷ "qq" says bad 2
    ∷ "q 1" says bad 2
    ∷ "q\r" says bad 2
    -- a view's digits are 1 to 8 and rise
    ∷ "r 1 0" says bad 5
    ∷ "r 1 9" says bad 5
    ∷ "r 1 11" says bad 6
    ∷ "r 1 21" says bad 6
    ∷ "r 1 1358642" says bad 9
    ∷ "r 1 123456789" says bad 13
    ∷ "r 1 -1" says bad 6
    ∷ "r 1 1-" says bad 6
    ∷ "r 1 --" says bad 6
    -- breaking off
    ∷ "" says bad 1
    ∷ "r" says bad 2
    ∷ "r " says bad 3
    ∷ "r 1" says bad 4
    ∷ "r 1 " says bad 5
    ∷ "t" says bad 2
    ∷ "t 1" says bad 4
    ∷ "t 1 " says bad 5
    ∷ "a 1" says bad 4
    ∷ "s" says bad 2
    ∷ "s " says bad 3
    -- breaking off within ` cut K`
    ∷ "t 1 2 " says bad 7
    ∷ "t 1 2 c" says bad 8
    ∷ "t 1 2 cut" says bad 10
    ∷ "a 1 2 cut" says bad 10
    ∷ "a 1 2 cut " says bad 11
    ∷ "r 1 1 " says bad 7
    ∷ "r 1 - cut" says bad 10
    -- `u` comes only first
    ∷ "u 1" says bad 1
    ∷ "u" says bad 1
    -- nothing more, nothing else
    ∷ "r 12 1" says bad 4
    ∷ "r 1  1" says bad 5
    ∷ "r 1 1 2" says bad 7
    ∷ "r 1 12 3" says bad 8
    ∷ "r 1 12cut 3" says bad 7
    ∷ "r 1 cut 3" says bad 5
    ∷ "r 1 1\r" says bad 6
    ∷ "r - 1" says bad 3
    ∷ "r1 1" says bad 2
    ∷ "t 1 23" says bad 6
    ∷ "t 1 a" says bad 5
    ∷ "t 1 2 x" says bad 7
    ∷ "t 1 2  cut 1" says bad 7
    ∷ "t 1 2 cut1" says bad 10
    ∷ "t 1 2 cut  1" says bad 11
    ∷ "t 1 2 cut x" says bad 11
    ∷ "t 1 2 cut 1 " says bad 12
    ∷ "t 1 2 Cut 1" says bad 7
    ∷ "t 1 cut 1" says bad 5
    ∷ "t 1 2\r" says bad 6
    ∷ "a - 2" says bad 3
    ∷ "a 1-2" says bad 4
    ∷ "a 1 2 cut 10" says bad 12
    ∷ "a 1 2 cut -" says bad 11
    ∷ "s 1 " says bad 4
    ∷ "s 1 2" says bad 4
    ∷ "s 1 cut 0" says bad 4
    ∷ "s 1\r" says bad 4
    ∷ "s x" says bad 3
    ∷ " " says bad 1
    ∷ " s 1" says bad 1
    ∷ "x 1 2" says bad 1
    ∷ "Q" says bad 1
    ∷ " q" says bad 1
    ∷ "S 1" says bad 1
    ∷ record { line = bytes "s " ++ (200 ∷ []); says = bad 3 }
    ∷ record { line = bytes "s 1" ++ (0 ∷ []); says = bad 4 }
    ∷ []

unfoldable pub said_first : Saying (Result ℕ BadFrom) → Result ℕ BadFrom
said_first x = opened x.line

unfoldable pub said : Saying (Result Line BadFrom) → Result Line BadFrom
said x = parsed x.line

abbrev pub expected_saying : {A : Type 0} → Saying A → A
expected_saying x = x.says
