-- The input line, and how long the output is at most.
use Prim.Native.Nat.{ℕ, ◌≤◌}
use mathlib.Core.Path.{◌≡◌}
use mathlib.Core.Bool.{true, ◌&&◌}
use mathlib.Core.Logic.{⊎_elim}
use mathlib.Core.List.{List, ◌++◌}
use native.Mathlib.Omega.{arith}
use borrow.Author.Tests.{eqb-true, leb-true}
use lib.Dec.{eqb, leb}
use lib.ListN.{length, get_or, length-append}
use Rattle.view.proofs.Laws.{and_left, or_cases}
use Rattle.sheet.specs.Grammar.{is_digit}
use Rattle.sheet.specs.Lines.{is_feed}
use Rattle.print.specs.Text.{bytes, decimal}
use Rattle.print.proofs.Bounds.{decimal-length}
use Rattle.std.specs.Prelude.{Result, Ok, Err}
use Rattle.system.specs.declared.refusal.Refusal.{Refusal}
use Rattle.system.specs.Refusal.{number}
use Rattle.orders.specs.declared.RunCounts.{RunCounts}
use Rattle.runs_text.specs.RunsText.{three_bytes, walk_text, answer_limit}

pub three_long : (b : List ℕ) → three_bytes b ≡ true → 3 ≤ length b
unfolding three_bytes
three_long b e =
    ⊎_elim
    (λ three. omega (arith, eqb-true (length b) 3 three))
    (λ four. omega (arith, eqb-true (length b) 4 (and_left (eqb (length b) 4) (is_feed (get_or b 3 0)) four)))
    (or_cases (eqb (length b) 3) (eqb (length b) 4 && is_feed (get_or b 3 0)) e)

-- a digit's byte is at least that of 0
pub digit_high : (b : ℕ) → is_digit "0" "9" b ≡ true → 48 ≤ b
digit_high b e = leb-true 48 b (and_left (leb 48 b) (leb b 57) e)

pub walk_length : (w : Result RunCounts Refusal) → length (walk_text w) ≤ answer_limit
unfolding walk_text bytes
walk_length (Ok w) =
    let runs = decimal w.runs in
    let entered = decimal w.entered in
    omega (
      arith,
      length-append (runs ++ bytes " " ++ entered) (bytes "\n"),
      length-append (runs ++ bytes " ") entered,
      length-append runs (bytes " "),
      decimal-length w.runs,
      decimal-length w.entered,
    )
walk_length (Err r) = omega (arith, length-append (decimal (number r)) (bytes "\n"), decimal-length (number r))
