-- A class of sheets. Document 02, S-7: "a sheet that cannot be opened or read (`unopened`) or is too long is named as such and adds nothing. It
-- prints, per sheet and in all, messages sent, taken, waiting, and lost to a stop". Document 01, "Tally": "per sheet `NAME sent A taken B waiting
-- C lost D share E/F`, `NAME unopened` or `NAME long`; at the end `all` for a name."
use Rattle.std.specs.Prelude.{ℕ, List, [], ◌∷◌, ◌++◌, ltb, length, take, Option, Some, None, Result, Ok, Err}
use Rattle.std.specs.Borrow.{Bor}
use Prim.Native.String.{String}
use Rattle.view.specs.Logic.{pick}
use Rattle.tallies.specs.declared.Tally.{Tally}
use Rattle.tallies.specs.declared.share.Share.{Share}
use Rattle.tallies.specs.Tally.{no_tally, plus, capped}
use Rattle.tallies.specs.Share.{share_of}
use Rattle.print.specs.Text.{bytes, decimal}
use Rattle.run.specs.Output.{sheet_tally, sheet_limit}
use Rattle.class.specs.declared.Uncounted.{Uncounted}
use Rattle.class.specs.declared.Uncounted.TheVariants.{Unopened, TooLong}

-- what came of a name: what its sheet counts, or why it counts nothing
abbrev pub Finding : Type 0
Finding = Result Tally Uncounted

-- ---- a line
-- a word and a number
abbrev pub labelled : String → ℕ → List ℕ
labelled word k = bytes word ++ decimal k

-- "share E/F"
unfoldable pub share_text : Share → List ℕ
share_text s = labelled " share " s.committed ++ labelled "/" s.proposals

-- "sent A taken B waiting C lost D share E/F"
unfoldable pub counts_text : Tally → List ℕ
counts_text t =
    labelled " sent " t.sent
    ++ labelled " taken " t.taken
    ++ labelled " waiting " t.waiting
    ++ labelled " lost " t.lost
    ++ share_text (share_of t)

-- what stands after the name
unfoldable pub finding_text : Finding → List ℕ
finding_text (Ok t) = counts_text t
finding_text (Err Unopened) = bytes " unopened"
finding_text (Err TooLong) = bytes " long"

-- "a name over 255 bytes is unopened, its first 255 printed"
abbrev pub name_limit : ℕ
name_limit = 255

-- the bytes of the longest line (`line_length_lem`)
abbrev pub line_limit : ℕ
line_limit = 412

unfoldable pub name_line : List ℕ → Finding → List ℕ
name_line name finding = take name_limit name ++ finding_text finding ++ bytes "\n"

-- ---- what came of a name
-- a name, and what was read of its sheet, where that was opened and read
pub record Named : Type 0 where
  pub name : List ℕ
  pub sheet : Option (List ℕ)

abbrev pub sheet_bytes : Option (Bor (List ℕ)) → Option (List ℕ)
sheet_bytes None = None
sheet_bytes (Some s) = Some s.now

abbrev pub named : List ℕ → Option (Bor (List ℕ)) → Named
named name sheet = record { name = name; sheet = sheet_bytes sheet }

-- a sheet of more than 60,000 bytes is a long one
unfoldable pub sheet_finding : Option (List ℕ) → Finding
sheet_finding None = Err Unopened
sheet_finding (Some sheet) = pick (ltb sheet_limit (length sheet)) (Err TooLong) (Ok (sheet_tally sheet))

-- "a name over 255 bytes is unopened"
unfoldable pub finding_of : Named → Finding
finding_of x = pick (ltb name_limit (length x.name)) (Err Unopened) (sheet_finding x.sheet)

-- "adds nothing"
unfoldable pub adds_of : Finding → Tally
adds_of (Ok t) = t
adds_of (Err why) = no_tally

-- ---- the class
-- "at the end `all` for a name"
unfoldable pub all_line : Tally → List ℕ
all_line total = name_line (bytes "all") (Ok total)

unfoldable pub each_line : List Named → List ℕ
each_line [] = []
each_line (x ∷ xs) = name_line x.name (finding_of x) ++ each_line xs

unfoldable pub in_all : List Named → Tally
in_all [] = no_tally
in_all (x ∷ xs) = plus (adds_of (finding_of x)) (in_all xs)

-- all that is printed for a class: "per sheet and in all"
unfoldable pub class_output : List Named → List ℕ
class_output xs = each_line xs ++ all_line (capped (in_all xs))

-- ---- in turn
-- what is printed for a name, and the class's tally after it: "one small record that each sheet adds to"
pub record Lined : Type 0 where
  pub text : List ℕ
  pub total : Tally

unfoldable pub lined_as : Tally → List ℕ → Finding → Lined
lined_as total name f = record { text = name_line name f; total = capped (plus total (adds_of f)) }

unfoldable pub lined : Tally → Named → Lined
lined total x = lined_as total x.name (finding_of x)

-- a line, and what is printed after it
unfoldable pub lined_then : Lined → (Tally → List ℕ) → List ℕ
lined_then l rest = l.text ++ rest l.total

-- name after name, and the last line. It is all that is printed for the class (proofs/Calls.antt).
unfoldable pub class_from : Tally → List Named → List ℕ
class_from total [] = all_line total
class_from total (x ∷ xs) = lined_then (lined total x) (λ t. class_from t xs)
