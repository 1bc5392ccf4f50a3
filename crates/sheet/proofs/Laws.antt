-- Laws of a sheet's lines.
use Prim.Native.Nat.{ℕ, suc, ◌+◌, ◌-◌, ◌≤◌, ◌<◌}
use mathlib.Core.Path.{◌≡◌, refl, ap, subst}
use mathlib.Core.Bool.{Bool, true, false}
use mathlib.Core.List.{List, [], ◌∷◌}
use native.Mathlib.Omega.{arith}
use native.Mathlib.Nat.{add_assoc, add-sub_cancel_left}
use native.Mathlib.Numerals.{add-one}
use borrow.Author.Tests.{lt-ltb, le-ltb, ltb-true, ltb-false}
use lib.Dec.{ltb}
use lib.ListN.{length, take, drop, length-drop, drop_of_length-le}
use lib.Seq.{drop-drop}
use Rattle.std.specs.Prelude.{Option, None, Some, IfSome, not, cond}
use Rattle.std.specs.Option.{unwrap_or}
use Rattle.std.proofs.lemmas.List.{take_rest}
use Rattle.std.specs.List.{position, position_or_len}
use Rattle.view.specs.Logic.{pick}
use Rattle.view.proofs.Laws.{by_test}
use Rattle.sheet.specs.declared.lines.Span.{Span}
use Rattle.sheet.specs.Lines.{is_feed, in_first, with_byte, lines_of, line_length, span, next_place, line_between, line_at}

-- ---- how long a line is
no_longer : (l : List ℕ) → line_length l ≤ length l
unfolding line_length pick
no_longer [] = omega arith
no_longer (b ∷ bs) = by (is_feed b) (no_longer bs)
  where
    by : (t : Bool) → line_length bs ≤ length bs → pick t 0 (suc (line_length bs)) ≤ suc (length bs)
    by true h = omega arith
    by false h = omega arith

-- the place of its line feed, or the text's length
line_prefix : (l : List ℕ) → position_or_len is_feed l ≡ line_length l
unfolding line_length pick
line_prefix [] = refl
line_prefix (b ∷ bs) = by (is_feed b) (line_prefix bs)
  where
    by : (t : Bool) → position_or_len is_feed bs ≡ line_length bs → cond (not t) (1 + position_or_len is_feed bs) 0 ≡ pick t 0 (suc (line_length bs))
    by true e = refl
    by false e = omega arith

pub line_position : (l : List ℕ) → unwrap_or (position is_feed l) (length l) ≡ line_length l
line_position l =
    rw (line_prefix l)
    (by_test (ltb (line_length l) (length l)) (λ e. rw e) (λ e. rw e (omega (arith, no_longer l, ltb-false (line_length l) (length l) e))))

pub line_within : (s : List ℕ) (at : ℕ) → at ≤ length s → at + line_length (drop at s) ≤ length s
line_within s at h = omega (arith, no_longer (drop at s), length-drop at s)

-- the same of the slice that begins there
pub rest_within : (s : List ℕ) (at : ℕ) → at ≤ length s → at + line_length (take (length s - at) (drop at s)) ≤ length s
rest_within s at h = rw (take_rest s at) (line_within s at h)

-- ---- the line at a place is the first of those from there on
by_feed : (t : Bool) (b : ℕ) (bs : List ℕ)
    → in_first b (lines_of bs) ≡ (b ∷ take (line_length bs) bs) ∷ lines_of (drop (suc (line_length bs)) bs)
    → pick t ([] ∷ lines_of bs) (in_first b (lines_of bs))
    ≡ take (pick t 0 (suc (line_length bs))) (b ∷ bs) ∷ lines_of (drop (suc (pick t 0 (suc (line_length bs)))) (b ∷ bs))
unfolding pick
by_feed true b bs e = refl
by_feed false b bs e = e

first_line_lem : (l : List ℕ) → 0 < length l → lines_of l ≡ take (line_length l) l ∷ lines_of (drop (suc (line_length l)) l)
unfolding lines_of with_byte in_first line_length
first_line_lem [] h = absurd (omega arith)
first_line_lem (b ∷ []) h = by_feed (is_feed b) b [] refl
first_line_lem (b ∷ (c ∷ cs)) h = by_feed (is_feed b) b (c ∷ cs) (ap (in_first b) (first_line_lem (c ∷ cs) (omega arith)))

-- what the line at a place says of the lines from there on
pub record Cut (s : List ℕ) (at : ℕ) (line : Span) : Type 0 where
  pub lines : lines_of (drop at s) ≡ take (line.end - line.start) (drop line.start s) ∷ lines_of (drop line.next s)
  pub ordered : line.start ≤ line.end
  pub within : line.end ≤ length s
  pub next : line.next ≡ next_place s at

line_here : (s : List ℕ) (at : ℕ) → at < length s → line_at s at ≡ Some (span at (at + line_length (drop at s)) (at + line_length (drop at s) + 1))
unfolding line_at line_between next_place pick
line_here s at h =
    let e : at + line_length (drop at s) + 1 - 1 ≡ at + line_length (drop at s) = omega arith in
    rw (lt-ltb at (length s) h, lt-ltb at (at + line_length (drop at s) + 1) (omega arith), e)

none_here : (s : List ℕ) (at : ℕ) → length s ≤ at → line_at s at ≡ None
unfolding line_at line_between next_place pick
none_here s at h = rw (le-ltb at (length s) h, le-ltb at at (omega arith))

cut_here : (s : List ℕ) (at : ℕ) → at < length s → Cut s at (span at (at + line_length (drop at s)) (at + line_length (drop at s) + 1))
unfolding next_place pick
cut_here s at h =
    record {
      lines = rw (add-sub_cancel_left, add_assoc, ← drop-drop, add-one) (first_line_lem (drop at s) (omega (arith, length-drop at s)));
      ordered = omega arith;
      within = line_within s at (omega arith);
      next = rw (lt-ltb at (length s) h);
    }

pub line_found : (s : List ℕ) (at : ℕ) (line : Span) → line_at s at ≡ Some line → Cut s at line
line_found s at line e =
    by_test (ltb at (length s))
    (λ here. let h = ltb-true at (length s) here in
    let same : span at (at + line_length (drop at s)) (at + line_length (drop at s) + 1) ≡ line = cc (line_here s at h) in
    subst (Cut s at) same (cut_here s at h))
    (λ past. let none = none_here s at (ltb-false at (length s) past) in cc)

-- it lies within the sheet
pub in_sheet : (s : List ℕ) (at : ℕ) → IfSome (line_at s at) (λ l. (l.start ≤ l.end) × (l.end ≤ length s))
in_sheet s at = by (line_at s at) refl
  where
    by : (found : Option Span) → line_at s at ≡ found → IfSome found (λ l. (l.start ≤ l.end) × (l.end ≤ length s))
    by None e = tt
    by (Some line) e = let cut = line_found s at line e in (cut.ordered, cut.within)

pub none_found : (s : List ℕ) (at : ℕ) → line_at s at ≡ None → lines_of (drop at s) ≡ []
unfolding lines_of
none_found s at e =
    by_test (ltb at (length s))
    (λ here. let some = line_here s at (ltb-true at (length s) here) in cc)
    (λ past. rw (drop_of_length-le s (ltb-false at (length s) past)))

pub none_next : (s : List ℕ) (at : ℕ) → line_at s at ≡ None → at ≡ next_place s at
unfolding next_place pick
none_next s at e =
    by_test (ltb at (length s))
    (λ here. let some = line_here s at (ltb-true at (length s) here) in cc)
    (λ past. rw past)

-- the lines' bytes, each with a line feed
unfoldable pub weight : List (List ℕ) → ℕ
weight [] = 0
weight (l ∷ ls) = suc (length l) + weight ls

-- a sheet has as many bytes, or one less: its last line may lack the line feed
pub few_bytes : (s : List ℕ) → weight (lines_of s) ≤ suc (length s)
unfolding lines_of with_byte in_first pick weight
few_bytes [] = omega arith
few_bytes (b ∷ bs) = by (is_feed b) (lines_of bs) (few_bytes bs)
  where
    by : (t : Bool) (ls : List (List ℕ)) → weight ls ≤ suc (length bs) → weight (pick t ([] ∷ ls) (in_first b ls)) ≤ suc (suc (length bs))
    by true ls h = omega arith
    by false [] h = omega arith
    by false (l ∷ ls) h = omega arith

-- and so no more lines than that
pub few_lines : (ls : List (List ℕ)) → length ls ≤ weight ls
unfolding weight
few_lines [] = omega arith
few_lines (l ∷ ls) = omega (arith, few_lines ls)
