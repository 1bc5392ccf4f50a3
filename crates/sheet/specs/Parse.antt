-- What a line of a sheet says. Document 01: "Fields are parted by one space. .. The forms: `u N` first and only first, N 1 to 8;
-- `r P VIEW`; `t Q P` (take, from Q at P); `a P Q` (P answers Q); `s P`. .. Anything else, an empty line too, is refusal 8". Document 02: "On the sheet, ` cut K` follows
-- the step, K one digit; after `u` or `s` it is a bad line." Document 01, "Layouts": "Settling (S-4): the sheet line `q`".
use Rattle.std.specs.Prelude.{ℕ, List, [], ◌∷◌, ◌++◌, Result, Ok, Err}
use Rattle.view.specs.declared.ProcessId.{ProcessId}
use Rattle.plan.specs.declared.Action.{Action}
use Rattle.plan.specs.declared.Action.TheVariants.{Report, Receive, Respond, Crash}
use Rattle.plan.specs.declared.Cut.{Cut}
use Rattle.plan.specs.declared.Cut.TheVariants.{Whole, After}
use Rattle.plan.specs.Cut.{whole, cut_after}
use Rattle.sheet.specs.declared.parse.BadFrom.{BadFrom}
use Rattle.sheet.specs.declared.parse.Line.{Line}
use Rattle.sheet.specs.declared.parse.Line.TheVariants.{Step, Settle}
use Rattle.sheet.specs.Grammar.{Form, ◌means◌, read}

abbrev pub process : ℕ → ProcessId
process k = record { 0 = k }

-- ---- the lines allowed first, and after the first
abbrev pub first_forms : List (Form ℕ)
first_forms = "u N" means (λ f. f 0) ∷ []

abbrev pub later_forms : List (Form Line)
later_forms =
    "r P V" means (λ f. Step (whole (Report (process (f 0)) (f 1))))
    ∷ "r P V cut K" means (λ f. Step (cut_after (Report (process (f 0)) (f 1)) (f 2)))
    ∷ "t Q P" means (λ f. Step (whole (Receive (process (f 0)) (process (f 1)))))
    ∷ "t Q P cut K" means (λ f. Step (cut_after (Receive (process (f 0)) (process (f 1))) (f 2)))
    ∷ "a P Q" means (λ f. Step (whole (Respond (process (f 0)) (process (f 1)))))
    ∷ "a P Q cut K" means (λ f. Step (cut_after (Respond (process (f 0)) (process (f 1))) (f 2)))
    ∷ "s P" means (λ f. Step (whole (Crash (process (f 0)))))
    ∷ "q" means (λ f. Settle)
    ∷ []

-- what the first line says, the size of the fresh system; and what any other
unfoldable pub opened : List ℕ → Result ℕ BadFrom
opened l = read first_forms l

unfoldable pub parsed : List ℕ → Result Line BadFrom
parsed l = read later_forms l

-- ---- what a line says, each case with the papers' number, 8 or 0, and its values: the column, or the fields in the form's order,
-- the count of a cut step after the others
pub record Meaning : Type 0 where
  pub number : ℕ
  pub values : List ℕ

unfoldable pub meaning_first : Result ℕ BadFrom → Meaning
meaning_first (Err bad) = record { number = 8; values = bad.0 ∷ [] }
meaning_first (Ok n) = record { number = 0; values = n ∷ [] }

unfoldable pub values_of : Action → List ℕ
values_of (Report p v) = p.0 ∷ v ∷ []
values_of (Receive q p) = q.0 ∷ p.0 ∷ []
values_of (Respond p q) = p.0 ∷ q.0 ∷ []
values_of (Crash p) = p.0 ∷ []

unfoldable pub count_in : Cut → List ℕ
count_in Whole = []
count_in (After k) = k ∷ []

unfoldable pub meaning : Result Line BadFrom → Meaning
meaning (Err bad) = record { number = 8; values = bad.0 ∷ [] }
meaning (Ok (Step o)) = record { number = 0; values = values_of o.action ++ count_in o.cut }
meaning (Ok Settle) = record { number = 0; values = [] }
