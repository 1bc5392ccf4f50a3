-- The names of a class's sheets. Document 02, S-7: "reads up to 64 sheet names from standard input, one to a line". Document 01: "Names past the
-- 64th are not read; a name over 255 bytes is unopened, its first 255 printed", and of a sheet: "Lines end with a line feed, which the last may lack."
use Rattle.std.specs.Prelude.{ℕ, suc, ◌≡◌, ⊤, Bool, false, ◌||◌, List, [], ◌∷◌, map, take, drop, Option, Some, None}
use Rattle.std.specs.Bool.{then_some}
use Rattle.sheet.specs.Lines.{is_feed, lines_of, line_length, next_place}
use Rattle.print.specs.declared.Page.{Page}
use Rattle.print.specs.Page.{typed_on}

abbrev pub most_names : ℕ
most_names = 64

-- a name as it is kept: one byte more than are tried, so that it shows that there are more
abbrev pub kept_name : List ℕ → List ℕ
kept_name line = take 256 line

-- so many names of an input's lines
unfoldable pub first_names : ℕ → List ℕ → List (List ℕ)
first_names n s = map kept_name (take n (lines_of s))

-- the names of an input
abbrev pub names_in : List ℕ → List (List ℕ)
names_in s = first_names most_names s

-- ---- name after name
-- the bytes up to the first line feed, or all of them where there is none
unfoldable pub first_line : List ℕ → List ℕ
first_line s = take (line_length s) s

-- the bytes after that line feed
unfoldable pub after_line : List ℕ → List ℕ
after_line s = drop (suc (line_length s)) s

-- where it is known, no name is left
abbrev pub NoneLeft : Option (List (List ℕ)) → Type 0
NoneLeft None = ⊤
NoneLeft (Some names) = names ≡ []

-- where it is known which names are left, what is given is the first of them, or there is none
abbrev pub GivesName : Option (List (List ℕ)) → Option (List (List ℕ)) → Option (List ℕ) → Type 0
GivesName old new None = NoneLeft old × NoneLeft new
GivesName None new (Some name) = ⊤
GivesName (Some names) None (Some name) = ⊥
GivesName (Some names) (Some rest) (Some name) = names ≡ name ∷ rest

-- where it is known which bytes are left, what is taken is their first line, and the others stay
abbrev pub TakesName : Option (List ℕ) → Option (List ℕ) → List ℕ → Type 0
TakesName None new name = ⊤
TakesName (Some s) None name = ⊥
TakesName (Some s) (Some rest) name = (name ≡ kept_name (first_line s)) × (rest ≡ after_line s)

-- ---- the lines in chunks
unfoldable pub has_feed : List ℕ → Bool
has_feed [] = false
has_feed (b ∷ bs) = is_feed b || has_feed bs

-- the place after the first line feed, if there is one
unfoldable pub after_feed : List ℕ → ℕ → Option ℕ
after_feed chunk at = then_some (has_feed (drop at chunk)) (next_place chunk at)

-- what is taken from a chunk, from a place on, onto the end of a name
pub record Gathers (chunk : List ℕ) (at : ℕ) (before after : Page) (next : Option ℕ) : Type 0 where
  pub name : after ≡ typed_on before (first_line (drop at chunk))
  pub place : next ≡ after_feed chunk at
