-- What a sheet counts is the tally of its events: line by line. Each line makes at most 7,936 moves, and each of these sends at most eight
-- messages, so that no count of a sheet, nor of 64 sheets, passes its end.
use Prim.Native.Nat.{ℕ, suc, ◌*◌, ◌≤◌, ◌+◌}
use mathlib.Core.Path.{◌≡◌, refl, sym, ◌∙◌, ap, subst}
use mathlib.Core.Bool.{Bool, true, false}
use mathlib.Core.List.{List, [], ◌∷◌, ◌++◌}
use native.Mathlib.Omega.{arith}
use borrow.Author.Tests.{ltb-false, le-ltb}
use lib.Dec.{eqb, ltb}
use lib.ListN.{length, length-append}
use Rattle.std.proofs.lemmas.List.{length-map}
use Rattle.std.specs.Prelude.{Option, Some, None}
use Rattle.view.specs.Logic.{pick, is_one_of}
use Rattle.view.proofs.Laws.{by_pick}
use Rattle.tallies.specs.declared.Tally.{Tally}
use Rattle.tallies.specs.Tally.{no_tally, plus, capped}
use Rattle.tallies.proofs.Laws.{none_plus, plus-plus, kept_on_the_way, kept_added, kept_twice, kept_whole, CountsAtMost, none_at_most, plus_at_most}
use Rattle.system.specs.declared.System.{System}
use Rattle.system.specs.Outcome.{Outcome, done, refused}
use Rattle.system.specs.Fresh.{fresh_system, fresh_of}
use Rattle.step.specs.Step.{stepped}
use Rattle.events.specs.Counts.{tally_if, step_tally, done_tally, still_waiting, move_tally, tally_then, events_tally, tally_of, fresh_tally}
use Rattle.events.specs.Event.{Event, happened, ran, Move, made, moves_of, moves_then, moves_in, grown}
use Rattle.events.proofs.Counted.{tally_append}
use Rattle.events.proofs.Moves.{ran_append, moves_append}
use Rattle.settling.specs.Settle.{settled_log, settling_budget}
use Rattle.settling.proofs.Within.{settled_steps}
use Rattle.settling.proofs.Steps.{is_its_steps, runs_to, settled_moves}
use Rattle.traffic.specs.Traffic.{moves_made}
use Rattle.traffic.proofs.Theorem.{conserved, few_counted}
use Rattle.traffic.proofs.Share.{share_at_most_one}
use Rattle.std.specs.Prelude.{Result, Ok, Err}
use Rattle.sheet.specs.declared.parse.BadFrom.{BadFrom}
use Rattle.sheet.specs.declared.parse.Line.{Line}
use Rattle.sheet.specs.declared.parse.Line.TheVariants.{Step, Settle}
use Rattle.sheet.specs.Lines.{lines_of}
use Rattle.sheet.specs.Parse.{opened, parsed}
use Rattle.sheet.proofs.Laws.{weight, few_bytes, few_lines}
use Rattle.sheet.proofs.GoodLines.{fresh_size}
use Rattle.run.specs.Output.{answered, settled_as, line_done, tallied_then, tallied_from, tallied_by, lines_tally, sheet_tally, sheet_limit}
use Rattle.class.specs.Class.{Finding, Named, sheet_finding, finding_of, adds_of, in_all, name_limit}
use Rattle.audit.specs.Audit.{line_events, sheet_events, Accounted, SheetAccounted, Even, SheetEven, ClassEven, NotOverOne, SheetShare, ClassShare, NoOverflow}

-- ---- what moves count, one after the other
tally_of_append : (s : System) (es fs : List Event) → tally_of s (es ++ fs) ≡ plus (events_tally s es) (tally_of (ran s es) fs)
unfolding tally_of
tally_of_append s es fs = rw (tally_append s es fs, ran_append s es fs) (plus-plus _ _ _)

-- ---- a line: what it counts, and the system after it
module _ (k : ℕ) (s : System) where
  line_counts : (x : Result Line BadFrom) → capped (line_done k s x).tally ≡ capped (events_tally s (line_events s x))
  unfolding line_done answered settled_as line_events events_tally done_tally tally_if moves_in moves_then moves_of happened grown tally_then move_tally pick
  line_counts (Err from) = refl
  line_counts (Ok (Step o)) = go (eqb (stepped s o).refusal 0)
    where
      go : (t : Bool) → capped (pick t (step_tally s o) no_tally) ≡ capped (grown tally_then no_tally s (pick t (made o ∷ []) [] ++ []))
      go true = ap capped (sym (none_plus (step_tally s o)))
      go false = refl
  line_counts (Ok Settle) =
      ap capped ((is_its_steps settling_budget s).tally ∙ ap (λ (ms : List Move). capped (grown tally_then no_tally s ms)) (sym (settled_moves settling_budget s))) ∙ kept_twice _

  line_leaves : (x : Result Line BadFrom) → (line_done k s x).system ≡ ran s (line_events s x)
  unfolding line_done answered settled_as line_events happened ran
  line_leaves (Err from) = refl
  line_leaves (Ok (Step o)) = refl
  line_leaves (Ok Settle) = sym (runs_to settling_budget s)

line_few : (s : System) (x : Result Line BadFrom) → length (moves_in s (line_events s x)) ≤ settling_budget
unfolding line_events moves_in moves_then moves_of happened pick
line_few s (Err from) = omega arith
line_few s (Ok (Step o)) = grind arith
line_few s (Ok Settle) = omega (arith, ap length (settled_moves settling_budget s), length-map (settled_log settling_budget s) made, (is_its_steps settling_budget s).count, settled_steps settling_budget s)

-- as many events as a sheet has at most, and as many as each count comes to
abbrev most_events : ℕ
most_events = settling_budget * (sheet_limit + 1)

abbrev most_counted : ℕ
most_counted = 8 * most_events

-- ---- the lines from number k on, on system s, where a was counted before them
-- x is counted as y is, after a; and z after it
counted_on : (a x y z : Tally) → capped x ≡ capped y → capped (plus (capped (plus a x)) z) ≡ capped (plus a (plus y z))
counted_on a x y z e =
    ap (λ (t : Tally). capped (plus t z)) (sym (kept_added a x) ∙ ap (λ (t : Tally). capped (plus a t)) e ∙ kept_added a y)
    ∙ kept_on_the_way (plus a y) z
    ∙ ap capped (plus-plus a y z)

nothing_more : (s : System) → tally_of s [] ≡ still_waiting s
unfolding tally_of events_tally moves_in grown ran
nothing_more s = none_plus (still_waiting s)

lines_count : (k : ℕ) (a : Tally) (s : System) (ls : List (List ℕ)) → tallied_from k a s ls ≡ capped (plus a (tally_of s (sheet_events s ls)))
unfolding tallied_from tallied_then sheet_events
lines_count k a s [] = ap (λ (t : Tally). capped (plus a t)) (sym (nothing_more s))
lines_count k a s (l ∷ ls) =
    let x = line_done k s (parsed l) in
    let es = line_events s (parsed l) in
    rw (lines_count (suc k) (capped (plus a x.tally)) x.system ls, line_leaves k s (parsed l), tally_of_append s es (sheet_events (ran s es) ls))
    (counted_on a _ _ _ (line_counts k s (parsed l)))

lines_few : (s : System) (ls : List (List ℕ)) → length (moves_in s (sheet_events s ls)) ≤ settling_budget * length ls
unfolding sheet_events moves_in
lines_few s [] = omega arith
lines_few s (l ∷ ls) =
    let es = line_events s (parsed l) in
    omega (
      arith,
      ap length (moves_append s es (sheet_events (ran s es) ls)),
      length-append (moves_in s es) (moves_in (ran s es) (sheet_events (ran s es) ls)),
      line_few s (parsed l),
      lines_few (ran s es) ls,
    )

-- ---- a whole sheet
few_at_most : (n : ℕ) (es : List Event) (k : ℕ) → moves_made n es ≤ k → CountsAtMost (8 * k) (fresh_tally n es)
few_at_most n es k short = let small = few_counted n es in grind arith

-- a sheet of at most 60,001 lines, which starts with n processes: what its lines count
good_sheet : (n : ℕ) (ls : List (List ℕ)) → is_one_of 8 n ≡ true → length ls ≤ 60001 → Accounted n ls (tallied_from 2 no_tally (fresh_system n) ls)
unfolding fresh_tally fresh_of pick
good_sheet n ls e short =
    let start = (fresh_of n).system in
    let same : start ≡ fresh_system n = ap (λ (test : Bool). (pick {A = Outcome} test (done (fresh_system n)) (refused 2 (fresh_system 0))).system) e in
    ap (λ (s : System). tallied_from 2 no_tally s ls) (sym same)
    ∙ lines_count 2 no_tally start ls
    ∙ ap capped (none_plus _)
    ∙ kept_whole (8 * (most_events)) (fresh_tally n (sheet_events start ls))
    (few_at_most n (sheet_events start ls) (most_events) (omega (arith, lines_few start ls))) (omega arith)

pub accounted : (sheet first : List ℕ) (ls : List (List ℕ)) (n : ℕ) → SheetAccounted sheet first ls n
unfolding sheet_tally lines_tally tallied_by weight pick
accounted sheet first ls n short lines good =
    tallied ∙ good_sheet n ls (fresh_size first n good) few
  where
    few : length ls ≤ sheet_limit + 1
    few =
        omega (
          arith,
          few_bytes sheet,
          few_lines ls,
          ap weight lines,
        )

    tallied : sheet_tally sheet ≡ tallied_from 2 no_tally (fresh_system n) ls
    tallied =
        ap (λ (test : Bool). pick test no_tally (lines_tally (lines_of sheet))) (le-ltb sheet_limit (length sheet) short)
        ∙ ap lines_tally lines
        ∙ ap (λ (x : Result ℕ BadFrom). tallied_by x ls) good

-- ---- every sheet: what is so of each list of events, and of nothing
every_sheet : (P : Tally → Type 0) → P no_tally → ((n : ℕ) (es : List Event) → moves_made n es ≤ most_events → P (fresh_tally n es)) → (sheet : List ℕ)
    → P (sheet_tally sheet)
unfolding sheet_tally lines_tally tallied_by
every_sheet P none some sheet =
    by_pick P (ltb sheet_limit (length sheet)) _ _ (λ long. none)
    (λ e. of_lines (lines_of sheet) (omega (arith, few_bytes sheet, few_lines (lines_of sheet), ltb-false sheet_limit (length sheet) e)))
  where
    of_opening : (first : List ℕ) (ls : List (List ℕ)) (x : Result ℕ BadFrom) → opened first ≡ x → length ls ≤ sheet_limit + 1 → P (tallied_by x ls)
    of_opening first ls (Err from) e short = none
    of_opening first ls (Ok n) e short =
        subst P (sym (good_sheet n ls (fresh_size first n e) short)) (some n (sheet_events (fresh_of n).system ls) (omega (arith, lines_few (fresh_of n).system ls)))

    of_lines : (ls : List (List ℕ)) → length ls ≤ sheet_limit + 1 → P (lines_tally ls)
    of_lines [] short = none
    of_lines (l ∷ ls) short = of_opening l ls (opened l) refl (omega arith)

-- ---- a class: what a name adds
every_name : (P : Tally → Type 0) → P no_tally → ((sheet : List ℕ) → P (sheet_tally sheet)) → (x : Named) → P (adds_of (finding_of x))
unfolding finding_of sheet_finding adds_of
every_name P none some x = by_pick (λ (f : Finding). P (adds_of f)) (ltb name_limit (length x.name)) _ _ (λ e. none) (λ e. of_sheet x.sheet)
  where
    of_sheet : (sheet : Option (List ℕ)) → P (adds_of (sheet_finding sheet))
    of_sheet None = none
    of_sheet (Some sheet) = by_pick (λ (f : Finding). P (adds_of f)) (ltb sheet_limit (length sheet)) _ _ (λ l. none) (λ l. some sheet)

-- ---- sent is taken, waiting and lost
pub sheet_even : (sheet : List ℕ) → SheetEven sheet
unfolding no_tally
sheet_even sheet = every_sheet Even refl (λ n es few. conserved n es) sheet

pub class_even : (xs : List Named) → ClassEven xs
unfolding in_all no_tally plus
class_even [] = refl
class_even (x ∷ xs) = omega (arith, name_even, class_even xs)
  where
    name_even : Even (adds_of (finding_of x))
    name_even = every_name Even refl sheet_even x

-- ---- the share
pub sheet_share : (sheet : List ℕ) → SheetShare sheet
unfolding no_tally
sheet_share sheet = every_sheet NotOverOne (omega arith) (λ n es few. share_at_most_one n es) sheet

pub class_share : (xs : List Named) → ClassShare xs
unfolding in_all no_tally plus
class_share [] = omega arith
class_share (x ∷ xs) = omega (arith, name_share, class_share xs)
  where
    name_share : NotOverOne (adds_of (finding_of x))
    name_share = every_name NotOverOne (omega arith) sheet_share x

-- ---- 64 times as much stays far below the end
sheet_at_most : (sheet : List ℕ) → CountsAtMost most_counted (sheet_tally sheet)
sheet_at_most sheet = every_sheet (CountsAtMost most_counted) (none_at_most most_counted) (λ n es few. few_at_most n es most_events few) sheet

class_at_most : (xs : List Named) → CountsAtMost (length xs * most_counted) (in_all xs)
unfolding in_all
class_at_most [] = none_at_most 0
class_at_most (x ∷ xs) =
    subst (λ (k : ℕ). CountsAtMost k (plus (adds_of (finding_of x)) (in_all xs))) (omega arith)
    (plus_at_most most_counted (length xs * most_counted) _ _ (every_name (CountsAtMost most_counted) (none_at_most most_counted) sheet_at_most x) (class_at_most xs))

pub no_overflow : (xs : List Named) → NoOverflow xs
no_overflow xs few = kept_whole (length xs * most_counted) (in_all xs) (class_at_most xs) (omega arith)
