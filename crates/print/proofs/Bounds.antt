-- How long the printed texts are at most, for whoever lends a buffer for them.
use Prim.Native.Nat.{ℕ, zero, suc, min, ◌+◌, ◌*◌, ◌/◌, ◌^◌, ◌≤◌, ◌<◌}
use mathlib.Core.Bool.{Bool, true, false}
use mathlib.Core.List.{List, [], ◌∷◌, ◌++◌}
use native.Mathlib.Omega.{arith}
use native.Mathlib.Nat.{suc-mul, pow-suc, min-le_left, mul-le-mul_right}
use native.Mathlib.Numerals.{add-one}
use borrow.Author.Tests.{lt-ltb}
use lib.Dec.{ltb, eqb}
use lib.ListN.{length, length-append}
use Rattle.view.specs.Logic.{pick}
use Rattle.view.specs.View.{has}
use Rattle.system.specs.declared.History.{History}
use Rattle.system.specs.declared.Process.{Process}
use Rattle.system.specs.declared.System.{System}
use Rattle.system.specs.System.{process_at}
use Rattle.print.specs.Text.{bytes, text_up_to, digits, decimal, member_text, view_text}
use Rattle.print.specs.Print.{numbers, three_numbers, numbered_line, column_line, entry_text, entry_text_at, history_text, unit_line, unit_of, unit_lines}

pub record AtMost (m : ℕ) (l : List ℕ) : Type 0 where
  pub bytes_are : length l ≤ m

none : {m : ℕ} → AtMost m []
none = record { bytes_are = omega arith }

one : {m b : ℕ} → AtMost (suc m) (b ∷ [])
one = record { bytes_are = omega arith }

-- ---- two texts, one of two texts, and the texts of 1 to n
pub both : {m n : ℕ} {a b : List ℕ} → AtMost m a → AtMost n b → AtMost (m + n) (a ++ b)
both {m} {n} {a} {b} ha hb = record { bytes_are = omega (arith, length-append a b, ha.bytes_are, hb.bytes_are) }

either : {m : ℕ} {a b : List ℕ} (t : Bool) → AtMost m a → AtMost m b → AtMost m (pick t a b)
unfolding pick
either true ha hb = ha
either false ha hb = hb

up_to : (n m : ℕ) (f : ℕ → List ℕ) → ((k : ℕ) → k ≤ n → AtMost m (f k)) → AtMost (n * m) (text_up_to n f)
unfolding text_up_to
up_to zero m f h = none
up_to (suc n) m f h = rw suc-mul (both (up_to n m f (λ k l. h k (omega arith))) (h (suc n) (omega arith)))

-- ---- numbers
all_digits : (n k : ℕ) → AtMost n (digits n k)
unfolding digits
all_digits zero k = none
all_digits (suc n) k = either (ltb k 10) one (rw (← add-one n) (both (all_digits n (k / 10)) one))

few : (n d k : ℕ) → k < 10 ^ suc d → AtMost (suc d) (digits n k)
unfolding digits pick
few zero d k h = none
few (suc n) zero k h = rw (lt-ltb k 10 h) one
few (suc n) (suc d) k h = either (ltb k 10) one (rw (← add-one (suc d)) (both (few n d (k / 10) (omega (arith, pow-suc 10 (suc d)))) one))

pub twenty_digits : (k : ℕ) → AtMost 20 (decimal k)
unfolding decimal
twenty_digits k = all_digits 20 k

pub decimal-length : (k : ℕ) → length (decimal k) ≤ 20
decimal-length k = (twenty_digits k).bytes_are

-- a number of at most d + 1 digits
few_digits : (d k : ℕ) → k < 10 ^ suc d → AtMost (suc d) (decimal k)
unfolding decimal
few_digits d k h = few 20 d k h

-- ---- words
record Words : Type 0 where
  space : AtMost 1 (bytes " ")
  feed : AtMost 1 (bytes "\n")
  equals : AtMost 1 (bytes "=")
  unit : AtMost 5 (bytes "unit ")
  stopped : AtMost 8 (bytes " stopped")
  live : AtMost 8 (bytes " live")
  next : AtMost 6 (bytes " next ")

words : Words
unfolding bytes
words =
    record {
      space = one;
      feed = one;
      equals = one;
      unit = record { bytes_are = omega arith };
      stopped = record { bytes_are = omega arith };
      live = record { bytes_are = omega arith };
      next = record { bytes_are = omega arith };
    }

-- ---- lines with a number
-- the line's number below 100,000, and at most two digits after it
numbers-length : (line number : ℕ) → line < 100000 → number < 100 → AtMost 8 (numbers line number)
numbers-length line number hl hn = both (both (few_digits 4 line hl) words.space) (few_digits 1 number hn)

pub numbered_length : (line number : ℕ) → line < 100000 → number < 100 → length (numbered_line line number) ≤ 9
unfolding numbered_line
numbered_length line number hl hn = (both (numbers-length line number hl hn) words.feed).bytes_are

-- one digit after it, and a third number of at most d + 1 digits
pub three-length : (d line number third : ℕ) → line < 100000 → number < 10 → third < 10 ^ suc d → length (three_numbers line number third) ≤ d + 9
three-length d line number third hl hn ht =
    omega (
      arith,
      (both (both (both (both (few_digits 4 line hl) words.space) (few_digits 0 number hn)) words.space) (few_digits d third ht)).bytes_are,
    )

-- and a column
pub column-length : (d line number column : ℕ) → line < 100000 → number < 10 → column < 10 ^ suc d → length (column_line line number column) ≤ d + 10
unfolding column_line
column-length d line number column hl hn hc =
    omega (arith, length-append (three_numbers line number column) (bytes "\n"), words.feed.bytes_are, three-length d line number column hl hn hc)

-- ---- views, histories and units
view_length : (v : ℕ) → AtMost 8 (view_text v)
unfolding view_text member_text
view_length v = up_to 8 1 (member_text v) (λ k l. either (has v k) one none)

entry_length : (i v : ℕ) → i < 100 → AtMost 12 (entry_text i v)
unfolding entry_text
entry_length i v h = either (eqb v 0) none (both (both (both words.space (few_digits 1 i h)) words.equals) (view_length v))

history_length : (h : History) → AtMost 384 (history_text h)
unfolding history_text entry_text_at
history_length h = up_to 32 12 (entry_text_at h) (λ i l. entry_length i _ (omega arith))

unit_length : (k : ℕ) (p : Process) → k < 10 → AtMost 425 (unit_line k p)
unfolding unit_line
unit_length k p h =
    both
    (both
    (both
    (both (both (both words.unit (few_digits 0 k h)) (either p.variables.crashed words.stopped words.live)) words.next)
    (twenty_digits p.variables.next.0))
    (history_length p.history))
    words.feed

-- at most eight lines of at most 425 bytes
pub units_length : (s : System) → length (unit_lines s) ≤ 3400
unfolding unit_lines unit_of
units_length s =
    omega (
      arith,
      mul-le-mul_right 425 (min-le_left 8 s.n),
      (up_to (min 8 s.n) 425 (unit_of s) (λ k l. unit_length k (process_at s k) (omega arith))).bytes_are,
    )
