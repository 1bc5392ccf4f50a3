-- The lines of a sheet: "Lines end with a line feed, which the last may lack."
use Rattle.std.specs.Prelude.{ℕ, suc, ◌+◌, ◌-◌, Bool, List, [], ◌∷◌, Option, None, Some, eqb, ltb, length, drop}
use Prim.Native.Char.{code}
use Rattle.view.specs.Logic.{pick}
use Rattle.sheet.specs.declared.lines.Span.{Span}

abbrev pub is_feed : ℕ → Bool
is_feed b = eqb b (code "\n")

-- the first line with a byte in front; a line of its own where there is none
unfoldable pub in_first : ℕ → List (List ℕ) → List (List ℕ)
in_first b [] = (b ∷ []) ∷ []
in_first b (l ∷ ls) = (b ∷ l) ∷ ls

unfoldable pub with_byte : ℕ → List (List ℕ) → List (List ℕ)
with_byte b ls = pick (is_feed b) ([] ∷ ls) (in_first b ls)

unfoldable pub lines_of : List ℕ → List (List ℕ)
lines_of [] = []
lines_of (b ∷ bs) = with_byte b (lines_of bs)

-- how many bytes the first line has
unfoldable pub line_length : List ℕ → ℕ
line_length [] = 0
line_length (b ∷ bs) = pick (is_feed b) 0 (suc (line_length bs))

-- the place of the next line; past the last line, the same place
unfoldable pub next_place : List ℕ → ℕ → ℕ
next_place s at = pick (ltb at (length s)) (at + line_length (drop at s) + 1) at

abbrev pub span : ℕ → ℕ → ℕ → Span
span start end next = record { start = start; end = end; next = next }

-- the line from a place up to the next line's: where it starts, where it ends, and where the next one starts; none where they are
-- the same place
unfoldable pub line_between : ℕ → ℕ → Option Span
line_between at next = pick (ltb at next) (Some (span at (next - 1) next)) None

-- the line at a place
unfoldable pub line_at : List ℕ → ℕ → Option Span
line_at s at = line_between at (next_place s at)
