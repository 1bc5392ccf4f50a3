-- What is printed for a sheet is never longer than 603,400 bytes: at most 10 for each byte of the lines after the first and their line
-- feeds, of which there are less than 60,000; and the processes' lines.
use Prim.Native.Nat.{ℕ, suc, ◌+◌, ◌*◌, ◌≤◌, ◌<◌}
use mathlib.Core.Path.{◌≡◌, refl, sym}
use mathlib.Core.Bool.{Bool, true, ◌&&◌}
use mathlib.Core.List.{List, [], ◌∷◌}
use mathlib.Core.Logic.{⊎_elim}
use native.Mathlib.Omega.{arith}
use borrow.Author.Tests.{ltb-true, ltb-false, eqb-true}
use lib.Dec.{ltb, eqb}
use lib.ListN.{length, length-append}
use Rattle.view.proofs.Laws.{by_pick, by_test, and_left, and_right, or_cases, true_is_not_false}
use Rattle.system.specs.declared.System.{System}
use Rattle.system.specs.Fresh.{fresh_system}
use Rattle.plan.specs.declared.Step.{Step as Order}
use Rattle.step.specs.Step.{stepped}
use Rattle.step.proofs.Outcomes.{among, answers, number_listed}
use Rattle.settling.specs.declared.Ending.{Ending}
use Rattle.settling.specs.declared.Ending.TheVariants.{Rest, Held, Budget}
use Rattle.settling.specs.Settle.{settled, settled_tally, settling_budget}
use Rattle.settling.proofs.Within.{settled_steps, settled_number}
use Rattle.print.specs.Text.{bytes}
use Rattle.print.specs.Print.{three_numbers, column_line}
use Rattle.print.proofs.Bounds.{numbered_length, three-length, column-length, units_length}
use Rattle.std.specs.Prelude.{Result, Ok, Err}
use Rattle.sheet.specs.declared.parse.BadFrom.{BadFrom}
use Rattle.sheet.specs.declared.parse.Line.{Line}
use Rattle.sheet.specs.declared.parse.Line.TheVariants.{Step, Settle}
use Rattle.sheet.specs.Lines.{lines_of}
use Rattle.sheet.specs.Parse.{meaning_first, meaning, first_forms, later_forms, opened, parsed}
use Rattle.sheet.proofs.Laws.{weight, few_bytes, few_lines}
use Rattle.sheet.proofs.Forms.{column_from_1}
use Rattle.sheet.proofs.FirstBytes.{nothing_said}
use Rattle.sheet.proofs.GoodLines.{bad_first_column, bad_column}
use Rattle.view.specs.Logic.{at}
use Rattle.run.specs.Output.{bad_line, answered, ending_text, settled_as, line_done, printed_then, printed_from, bad_from, started_by, lines_output, output, sheet_limit, output_limit}

-- ---- every number has at most two digits
unfoldable below : ℕ → List ℕ → Bool
below m [] = true
below m (a ∷ rest) = ltb a m && below m rest

among_below : (m : ℕ) (l : List ℕ) (k : ℕ) → below m l ≡ true → among l k ≡ true → k < m
unfolding below among
among_below m [] k b e = true_is_not_false (sym e)
among_below m (a ∷ rest) k b e =
    let small : a < m = ltb-true a m (and_left (ltb a m) (below m rest) b) in
    ⊎_elim
    (λ is. let same : k ≡ a = eqb-true k a is in omega arith)
    (λ on. among_below m rest k (and_right (ltb a m) (below m rest) b) on)
    (or_cases (eqb k a) (among rest k) e)

two_digits : (s : System) (o : Order) → (stepped s o).refusal < 100
unfolding below
two_digits s o = among_below 100 answers (stepped s o).refusal refl (number_listed s o)

-- ---- a bad line: a column of two digits takes nine bytes to reach
column_room : (k column n : ℕ) → k < 100000 → n ≤ sheet_limit → column ≤ n + 1 → length (column_line k 8 column) ≤ suc n * 10
column_room k column n hk hn near =
    by_test (ltb column 10)
    (λ e. omega (arith, column-length 0 k 8 column hk (omega arith) (omega (arith, ltb-true column 10 e))))
    (λ e. omega (arith, column-length 4 k 8 column hk (omega arith) (omega arith), ltb-false column 10 e))

-- ---- a settling run: its line has a byte and a line feed, and at most four digits are printed for its steps
ending_room : (e : Ending) → length (ending_text e) ≤ 8
unfolding ending_text bytes
ending_room Rest = omega arith
ending_room Held = omega arith
ending_room Budget = omega arith

settle_room : (k : ℕ) (s : System) → k < 100000 → length (settled_as k (settled_tally settling_budget s) (settled settling_budget s)).text ≤ 20
unfolding settled_as
settle_room k s hk =
    let o = settled settling_budget s in
    rw (length-append (three_numbers k o.refusal o.steps) (ending_text o.ending))
    (omega (
      arith,
      ending_room o.ending,
      three-length 3 k o.refusal o.steps hk (omega (arith, settled_number settling_budget s)) (omega (arith, settled_steps settling_budget s)),
    ))

settle_said : (l : List ℕ) → parsed l ≡ Ok Settle → 0 < length l
settle_said [] e = absurd (let z : ◌≡◌ {A = ℕ} 0 1 = cc (nothing_said [] refl) in omega arith)
settle_said (b ∷ bs) e = omega arith

-- ---- a line
line_room : (k : ℕ) (s : System) (l : List ℕ) (x : Result Line BadFrom) → parsed l ≡ x → k < 100000 → length l ≤ sheet_limit → length (line_done k s x).text ≤ suc (length l) * 10
unfolding line_done answered bad_line meaning at
line_room k s l (Err bad) e hk hl = column_room k bad.0 (length l) hk hl (rw (bad_column l bad.0 e) (column_from_1 later_forms l).1)
line_room k s l (Ok (Step o)) e hk hl = omega (arith, numbered_length k (stepped s o).refusal hk (two_digits s o))
line_room k s l (Ok Settle) e hk hl = omega (arith, settle_room k s hk, settle_said l e)

-- ---- line by line
printed_length : (k : ℕ) (s : System) (ls : List (List ℕ)) → k + length ls < 100000 → weight ls ≤ sheet_limit + 1 → length (printed_from k s ls) ≤ weight ls * 10 + 3400
unfolding printed_from printed_then weight
printed_length k s [] h w = omega (arith, units_length s)
printed_length k s (l ∷ ls) h w =
    let x = line_done k s (parsed l) in
    rw (length-append x.text (printed_from (suc k) x.system ls))
    (omega (arith, line_room k s l (parsed l) refl (omega arith) (omega arith), printed_length (suc k) x.system ls (omega arith) (omega arith)))

bad_length : (k : ℕ) (ls : List (List ℕ)) → k + length ls < 100000 → length (bad_from k ls) ≤ length ls * 10
unfolding bad_from
bad_length k [] h = omega arith
bad_length k (l ∷ ls) h =
    rw (length-append (column_line k 8 0) (bad_from (suc k) ls))
    (omega (arith, column-length 0 k 8 0 (omega arith) (omega arith) (omega arith), bad_length (suc k) ls (omega arith)))

started_length : (l : List ℕ) (ls : List (List ℕ)) (x : Result ℕ BadFrom) → opened l ≡ x → suc (length l) + weight ls ≤ sheet_limit + 1 → length (started_by x ls) ≤ output_limit
unfolding started_by bad_line meaning_first at
started_length l ls (Ok n) e w = omega (arith, few_lines ls, printed_length 2 (fresh_system n) ls (omega (arith, few_lines ls)) (omega arith))
started_length l ls (Err bad) e w =
    rw (length-append (column_line 1 8 bad.0) (bad_from 2 ls))
    (omega (
      arith,
      few_lines ls,
      column_room 1 bad.0 (length l) (omega arith) (omega arith) (rw (bad_first_column l bad.0 e) (column_from_1 first_forms l).1),
      bad_length 2 ls (omega (arith, few_lines ls)),
    ))

lines_length : (ls : List (List ℕ)) → weight ls ≤ sheet_limit + 1 → length (lines_output ls) ≤ output_limit
unfolding lines_output weight
lines_length [] h = omega arith
lines_length (l ∷ ls) h = started_length l ls (opened l) refl h

-- a buffer of so many bytes has room for what is printed for any sheet
pub output-length : (sheet : List ℕ) → length (output sheet) ≤ output_limit
unfolding output bytes
output-length sheet =
    by_pick (λ (t : List ℕ). length t ≤ output_limit) (ltb sheet_limit (length sheet)) _ _
    (λ e. omega arith)
    (λ e. lines_length (lines_of sheet) (omega (arith, few_bytes sheet, ltb-false sheet_limit (length sheet) e)))
