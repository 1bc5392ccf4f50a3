-- Which lines are allowed, and where a line stops being one. A form is a text such as `t Q P`: a capital stands for a field, any
-- other byte for itself. The lines allowed at a place are one list of forms (`Parse.antt`); all else here speaks of any list.
use Rattle.std.specs.Prelude.{ℕ, zero, suc, ◌+◌, ◌-◌, Bool, true, false, ◌&&◌, eqb, leb, ltb, length, get_or, take, Result, Ok, Err}
use Prim.Native.Char.{Char, code}
use Prim.Native.String.{String}
use mathlib.Core.List.{List, [], ◌∷◌, ◌++◌, map, flat_map}
use Rattle.view.specs.Logic.{pick}
use Rattle.view.specs.View.{with}
use Rattle.print.specs.Text.{bytes}
use Rattle.sheet.specs.declared.parse.BadFrom.{BadFrom}

-- ---- forms
pub data Piece : Type 0 where
  -- this byte
  byte : ℕ → Piece
  -- "N 1 to 8"
  size : Piece
  -- "P and Q are one digit"
  digit : Piece
  -- "VIEW is `-` for the empty set, else digits 1 to 8 strictly rising"
  view : Piece
  -- what may still follow of a view that has begun: its last digit, and the view so far
  more : ℕ → ℕ → Piece

abbrev pub is_capital : ℕ → Bool
is_capital c = leb (code "A") c && leb c (code "Z")

-- what a byte of a form's text stands for: N a size, V a view, any other capital a digit, and any other byte itself
unfoldable pub piece : ℕ → Piece
piece c = pick (eqb c (code "N")) size (pick (eqb c (code "V")) view (pick (is_capital c) digit (byte c)))

-- a form as far as a line has come in it: what is left, the values of the fields so far, and what a line of the form says by
-- the values of its fields, counted from 0
pub record Form (A : Type 0) : Type 0 where
  pub left : List Piece
  pub fields : List ℕ
  pub says : (ℕ → ℕ) → A

abbrev pub form : {A : Type 0} → ((ℕ → ℕ) → A) → List ℕ → List Piece → Form A
form says fields left = record { left = left; fields = fields; says = says }

infix 80 ◌means◌
abbrev pub ◌means◌ : {A : Type 0} → String → ((ℕ → ℕ) → A) → Form A
text means says = form says [] (map piece (bytes text))

-- ---- a form is followed byte by byte
-- b is a digit from c to d
abbrev pub is_digit : Char → Char → ℕ → Bool
is_digit c d b = leb (code c) b && leb b (code d)

-- b may follow the digit `last` in a view
abbrev pub rises : ℕ → ℕ → Bool
rises last b = ltb last b && leb b (code "8")

abbrev pub value_of : ℕ → ℕ
value_of b = b - code "0"

abbrev pub when : {A : Type 0} → Bool → A → List A
when test a = pick test (a ∷ []) []

-- what the form can be once byte b is taken off the line: a view that has begun may go on with b, or end before it
unfoldable pub passed : {A : Type 0} → ((ℕ → ℕ) → A) → List ℕ → List Piece → ℕ → List (Form A)
passed says fs [] b = []
passed says fs (byte c ∷ ps) b = when (eqb c b) (form says fs ps)
passed says fs (size ∷ ps) b = when (is_digit "1" "8" b) (form says (fs ++ (value_of b ∷ [])) ps)
passed says fs (digit ∷ ps) b = when (is_digit "0" "9" b) (form says (fs ++ (value_of b ∷ [])) ps)
passed says fs (view ∷ ps) b =
    when (eqb (code "-") b) (form says (fs ++ (0 ∷ [])) ps) ++ when (rises (code "0") b) (form says fs (more b (with 0 (value_of b)) ∷ ps))
passed says fs (more last v ∷ ps) b =
    when (rises last b) (form says fs (more b (with v (value_of b)) ∷ ps)) ++ passed says (fs ++ (v ∷ [])) ps b

-- what a line says that ends here, if it may
unfoldable pub ended : {A : Type 0} → ((ℕ → ℕ) → A) → List ℕ → List Piece → List A
ended says fs [] = says (λ i. get_or fs i 0) ∷ []
ended says fs (byte c ∷ ps) = []
ended says fs (size ∷ ps) = []
ended says fs (digit ∷ ps) = []
ended says fs (view ∷ ps) = []
ended says fs (more last v ∷ ps) = ended says (fs ++ (v ∷ [])) ps

abbrev pub onward : {A : Type 0} → ℕ → Form A → List (Form A)
onward b x = passed x.says x.fields x.left b

abbrev pub ends_as : {A : Type 0} → Form A → List A
ends_as x = ended x.says x.fields x.left

-- the forms that can still go on after a text
unfoldable pub followed : {A : Type 0} → List (Form A) → List ℕ → List (Form A)
followed xs [] = xs
followed xs (b ∷ bs) = followed (flat_map (onward b) xs) bs

-- what a line says, by each form that it is of
unfoldable pub readings : {A : Type 0} → List (Form A) → List ℕ → List A
readings xs l = flat_map ends_as (followed xs l)

-- ---- lines
unfoldable pub some : {A : Type 0} → List A → Bool
some [] = false
some (a ∷ rest) = true

-- the line is of one of the forms
unfoldable pub allowed : {A : Type 0} → List (Form A) → List ℕ → Bool
allowed xs l = some (readings xs l)

-- the text begins a line of one of the forms
unfoldable pub begins : {A : Type 0} → List (Form A) → List ℕ → Bool
begins xs l = some (followed xs l)

-- the greatest number up to n of which the test holds; 0 where it holds of none
unfoldable pub greatest : ℕ → (ℕ → Bool) → ℕ
greatest zero test = 0
greatest (suc k) test = pick (test (suc k)) (suc k) (greatest k test)

-- Document 02: "the column, counted from 1, of the first byte with which the line so far begins no line allowed there; for a line
-- that merely breaks off, that is its length plus 1"
unfoldable pub column : {A : Type 0} → List (Form A) → List ℕ → ℕ
column xs l = greatest (length l) (λ k. begins xs (take k l)) + 1

abbrev pub from_column : ℕ → BadFrom
from_column column = record { 0 = column }

unfoldable pub first_reading : {A : Type 0} → List A → BadFrom → Result A BadFrom
first_reading [] bad = Err bad
first_reading (a ∷ rest) bad = Ok a

-- what a line says that is allowed, and of any other that it is bad at its column
unfoldable pub read : {A : Type 0} → List (Form A) → List ℕ → Result A BadFrom
read xs l = first_reading (readings xs l) (from_column (column xs l))
