-- One turn of a sheet's run: the line that was found is the next one, and what is printed for it stands before the rest.
use Prim.Native.Nat.{ℕ, suc, ◌+◌, ◌≤◌, ◌<◌}
use mathlib.Core.Path.{◌≡◌, refl, sym, ◌∙◌, ap}
use mathlib.Core.Bool.{true}
use mathlib.Core.List.{List, [], ◌∷◌, ◌++◌}
use native.Mathlib.Numerals.{add-one}
use borrow.Author.Tests.{lt-ltb, le-ltb}
use native.Mathlib.Omega.{arith}
use lib.ListN.{length, drop, length-drop}
use Rattle.view.specs.Logic.{at, pick, is_one_of}
use Rattle.tallies.specs.declared.Tally.{Tally}
use Rattle.tallies.specs.Tally.{no_tally, plus, capped}
use Rattle.system.specs.declared.System.{System}
use Rattle.events.specs.Counts.{still_waiting}
use Rattle.print.specs.Text.{bytes}
use Rattle.print.specs.declared.Page.{Page}
use Rattle.print.specs.Page.{typed_on}
use Rattle.print.specs.Print.{column_line, unit_lines}
use Rattle.print.proofs.Typing.{typed_on_nil, typed_in_turn}
use Rattle.std.specs.Prelude.{Result, Ok, Err}
use Rattle.sheet.specs.declared.parse.BadFrom.{BadFrom}
use Rattle.sheet.specs.declared.parse.Line.{Line}
use Rattle.sheet.specs.Lines.{lines_of}
use Rattle.sheet.specs.Grammar.{from_column}
use Rattle.sheet.specs.Parse.{meaning_first, opened, parsed}
use Rattle.sheet.proofs.Laws.{few_bytes, few_lines}
use Rattle.sheet.proofs.GoodLines.{fresh_size}
use Rattle.run.specs.Output.{bad_line, line_done, printed_then, printed_from, bad_from, started_by, lines_output, output, tallied_then, tallied_from, tallied_by, lines_tally, sheet_tally, sheet_limit}

-- a sheet has no more lines than bytes, and one
pub few_left : (sheet : List ℕ) (at : ℕ) → length (lines_of (drop at sheet)) ≤ length sheet + 1
few_left sheet at = omega (arith, few_lines (lines_of (drop at sheet)), few_bytes (drop at sheet), length-drop at sheet)

-- total is the page in the end, p the page before the line and q the page after it
then : (total p q : Page) (a b : List ℕ) → total ≡ typed_on p (a ++ b) → q ≡ typed_on p a → total ≡ typed_on q b
then total p q a b whole here = whole ∙ sym (typed_in_turn p q (typed_on q b) a b here refl)

pub printed_again : (total p q : Page) (l : List ℕ) (lines ls : List (List ℕ)) (line : ℕ) (s t : System) (x : Result Line BadFrom) → lines ≡ l ∷ ls
    → x ≡ parsed l
    → t ≡ (line_done line s x).system
    → total ≡ typed_on p (printed_from line s lines)
    → q ≡ typed_on p (line_done line s x).text
    → total ≡ typed_on q (printed_from (line + 1) t ls)
unfolding printed_from printed_then
printed_again total p q l lines ls line s t x first said after whole here =
    rw (add-one, after)
    (then total p q (line_done line s x).text (printed_from (suc line) (line_done line s x).system ls)
    (whole ∙ ap (typed_on p) (ap (printed_from line s) first ∙ ap (λ (y : Result Line BadFrom). printed_then (line_done line s y) (λ u. printed_from (suc line) u ls)) (sym said)))
    here)

pub printed_end : (total p q : Page) (lines : List (List ℕ)) (line : ℕ) (s : System) → lines ≡ []
    → total ≡ typed_on p (printed_from line s lines)
    → q ≡ typed_on p (unit_lines s)
    → q ≡ total
unfolding printed_from
printed_end total p q lines line s none whole here = here ∙ sym (whole ∙ ap (λ (ls : List (List ℕ)). typed_on p (printed_from line s ls)) none)

-- ---- what is counted: total in the end, a before the line, m for it and b after it
pub tallied_again : (total a m b : Tally) (l : List ℕ) (lines ls : List (List ℕ)) (line : ℕ) (s t : System) (x : Result Line BadFrom) → lines ≡ l ∷ ls
    → x ≡ parsed l
    → t ≡ (line_done line s x).system
    → total ≡ tallied_from line a s lines
    → m ≡ (line_done line s x).tally
    → b ≡ capped (plus a m)
    → total ≡ tallied_from (line + 1) b t ls
unfolding tallied_from tallied_then
tallied_again total a m b l lines ls line s t x first said after whole counts here =
    rw (add-one, after, here, counts)
    (whole ∙ ap (tallied_from line a s) first ∙ ap (λ (y : Result Line BadFrom). tallied_then a (line_done line s y) (λ c u. tallied_from (suc line) c u ls)) (sym said))

pub tallied_end : (total a m b : Tally) (lines : List (List ℕ)) (line : ℕ) (s : System) → lines ≡ []
    → total ≡ tallied_from line a s lines
    → m ≡ still_waiting s
    → b ≡ capped (plus a m)
    → b ≡ total
unfolding tallied_from
tallied_end total a m b lines line s none whole counts here =
    here ∙ ap (λ (t : Tally). capped (plus a t)) counts ∙ sym (whole ∙ ap (tallied_from line a s) none)

-- after a bad first line: its own column, and then 0
pub bad_begins : (p q : Page) (column : ℕ) (ls : List (List ℕ)) → q ≡ typed_on p (column_line 1 8 column) → typed_on p (started_by (Err (from_column column)) ls) ≡ typed_on q (bad_from 2 ls)
unfolding started_by bad_line meaning_first at
bad_begins p q column ls here = then _ p q (column_line 1 8 column) (bad_from 2 ls) refl here

pub bad_again : (total p q : Page) (l : List ℕ) (lines ls : List (List ℕ)) (line : ℕ) → lines ≡ l ∷ ls
    → total ≡ typed_on p (bad_from line lines)
    → q ≡ typed_on p (column_line line 8 0)
    → total ≡ typed_on q (bad_from (line + 1) ls)
unfolding bad_from
bad_again total p q l lines ls line first whole here =
    rw add-one (then total p q (column_line line 8 0) (bad_from (suc line) ls) (whole ∙ ap (λ (ls : List (List ℕ)). typed_on p (bad_from line ls)) first) here)

pub bad_end : (total p : Page) (lines : List (List ℕ)) (line : ℕ) → lines ≡ [] → total ≡ typed_on p (bad_from line lines) → p ≡ total
unfolding bad_from
bad_end total p lines line none whole = sym (whole ∙ ap (λ (ls : List (List ℕ)). typed_on p (bad_from line ls)) none ∙ typed_on_nil p)

-- ---- the whole sheet, by how it begins
pub output_long : (sheet : List ℕ) → sheet_limit < length sheet → output sheet ≡ bytes "0 9\n"
unfolding output pick
output_long sheet h = rw (lt-ltb sheet_limit (length sheet) h)

pub output_none : (sheet : List ℕ) → length sheet ≤ sheet_limit → lines_of sheet ≡ [] → output sheet ≡ []
unfolding output pick lines_output
output_none sheet h none = rw (le-ltb sheet_limit (length sheet) h, none)

-- the first line says x
pub output-begins : (sheet l : List ℕ) (ls : List (List ℕ)) (x : Result ℕ BadFrom) → length sheet ≤ sheet_limit → lines_of sheet ≡ l ∷ ls
    → x ≡ opened l
    → output sheet ≡ started_by x ls
unfolding output pick lines_output
output-begins sheet l ls x h first said = rw (le-ltb sheet_limit (length sheet) h, said) (ap lines_output first)

-- and what it counts
pub tally_long : (sheet : List ℕ) → sheet_limit < length sheet → sheet_tally sheet ≡ no_tally
unfolding sheet_tally pick
tally_long sheet h = rw (lt-ltb sheet_limit (length sheet) h)

pub tally_none : (sheet : List ℕ) → length sheet ≤ sheet_limit → lines_of sheet ≡ [] → sheet_tally sheet ≡ no_tally
unfolding sheet_tally pick lines_tally
tally_none sheet h none = rw (le-ltb sheet_limit (length sheet) h, none)

pub tally_begins : (sheet l : List ℕ) (ls : List (List ℕ)) (x : Result ℕ BadFrom) → length sheet ≤ sheet_limit → lines_of sheet ≡ l ∷ ls
    → x ≡ opened l
    → sheet_tally sheet ≡ tallied_by x ls
unfolding sheet_tally pick lines_tally
tally_begins sheet l ls x h first said = rw (le-ltb sheet_limit (length sheet) h, said) (ap lines_tally first)

-- the size that a good first line asks for
pub started_size : (x : Result ℕ BadFrom) (l : List ℕ) (n : ℕ) → x ≡ opened l → x ≡ Ok n → is_one_of 8 n ≡ true
started_size x l n said is = fresh_size l n (sym said ∙ is)

-- a tally newly made
pub nothing_yet : (t : Tally) → (t.sent ≡ 0) × ((t.taken ≡ 0) × ((t.waiting ≡ 0) × ((t.lost ≡ 0) × ((t.proposals ≡ 0) × (t.committed ≡ 0))))) → t ≡ no_tally
unfolding no_tally
nothing_yet t e =
    let same : record { sent = t.sent; taken = t.taken; waiting = t.waiting; lost = t.lost; proposals = t.proposals; committed = t.committed } ≡ no_tally =
    rw (e.0, e.1.0, e.1.1.0, e.1.1.1.0, e.1.1.1.1.0, e.1.1.1.1.1) refl in
    same
