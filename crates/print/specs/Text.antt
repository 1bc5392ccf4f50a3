-- Texts as lists of bytes: words, numbers and views.
use Rattle.std.specs.Prelude.{ℕ, zero, suc, ◌+◌, ◌/◌, ◌%◌, List, [], ◌∷◌, ◌++◌, ltb}
use Prim.Native.Char.{code}
use Prim.Native.String.{String, [] as end, ◌∷◌ as ◌then◌}
use Rattle.view.specs.Logic.{pick}
use Rattle.view.specs.View.{has}

-- the bytes of a text in quotes: ASCII, so that a character is a byte
unfoldable pub bytes : String → List ℕ
bytes end = []
bytes (c then s) = code c ∷ bytes s

-- the texts of 1 to n, one after the other
unfoldable pub text_up_to : ℕ → (ℕ → List ℕ) → List ℕ
text_up_to zero f = []
text_up_to (suc k) f = text_up_to k f ++ f (suc k)

-- the byte of a digit
abbrev pub digit : ℕ → List ℕ
digit k = (code "0" + k) ∷ []

-- the last n digits of a number, with no zero in front
unfoldable pub digits : ℕ → ℕ → List ℕ
digits zero k = []
digits (suc n) k = pick (ltb k 10) (digit k) (digits n (k / 10) ++ digit (k % 10))

-- a number in decimal: no number of the machine has more than twenty digits
unfoldable pub decimal : ℕ → List ℕ
decimal k = digits 20 k

-- the digits of a view's processes, rising
unfoldable pub member_text : ℕ → ℕ → List ℕ
member_text v k = pick (has v k) (digit k) []

unfoldable pub view_text : ℕ → List ℕ
view_text v = text_up_to 8 (member_text v)
