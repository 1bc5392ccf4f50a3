-- Laws of typing on a page of the code.
use Prim.Native.Nat.{ℕ, zero, suc, ◌+◌, ◌-◌, ◌/◌, ◌%◌, ◌≤◌, ◌<◌}
use mathlib.Core.Path.{◌≡◌, refl, ap}
use mathlib.Core.List.{List, [], ◌∷◌, ◌++◌}
use native.Mathlib.Omega.{arith}
use native.Mathlib.Numerals.{add-one, sub-one}
use borrow.Author.Tests.{lt-ltb, le-ltb}
use lib.ListN.{length, get_or, take, set}
use lib.Seq.{take-suc}
use Rattle.std.specs.Borrow.{MutBor}
use Rattle.view.specs.Logic.{pick}
use Rattle.print.specs.declared.Page.{Page}
use Rattle.print.specs.Text.{text_up_to, digit, digits}
use Rattle.print.specs.Page.{page, typed_byte, typed, page_from, page_of, with_page, typed_on, StandsFirst}
use Rattle.print.proofs.Laws.{typed-append, same_room, within_buffer, printed_whole}

-- ---- byte after byte, and text after text
pub byte_on : Page → ℕ → Page
byte_on p b = with_page p (typed_byte (page_of p) b)

pub typed_on_nil : (p : Page) → typed_on p [] ≡ p
unfolding typed_on typed
typed_on_nil p = refl

pub typed_on_cons : (p : Page) (b : ℕ) (t : List ℕ) → typed_on p (b ∷ t) ≡ typed_on (byte_on p b) t
unfolding typed_on typed byte_on
typed_on_cons p b t = refl

pub typed_on_append : (p : Page) (a b : List ℕ) → typed_on p (a ++ b) ≡ typed_on (typed_on p a) b
unfolding typed_on
typed_on_append p a b = ap (with_page p) (typed-append (page_of p) a b)

pub typed_in_turn : (o p q : Page) (a b : List ℕ) → p ≡ typed_on o a → q ≡ typed_on p b → q ≡ typed_on o (a ++ b)
typed_in_turn o p q a b e f = rw (typed_on_append o a b, ← e) f

pub next_byte : (o p q : Page) (t : List ℕ) (i : ℕ) → i < length t → p ≡ typed_on o (take i t) → q ≡ typed_on p (get_or t i 0 ∷ []) → q ≡ typed_on o (take (i + 1) t)
next_byte o p q t i h e f = rw (add-one, take-suc t i 0 h) (typed_in_turn o p q _ _ e f)

-- ---- one byte
pub one_byte_on : (p : Page) (b : ℕ) → p.place < length p.buffer.now → with_page p (page (set p.buffer.now p.place b) (p.place + 1)) ≡ typed_on p (b ∷ [])
unfolding typed_on typed typed_byte pick
one_byte_on p b h = rw (lt-ltb p.place (length p.buffer.now) h)

pub no_room_on : (p : Page) (b : ℕ) → length p.buffer.now ≤ p.place → p ≡ typed_on p (b ∷ [])
unfolding typed_on typed typed_byte pick
no_room_on p b h = rw (le-ltb p.place (length p.buffer.now) h)

-- ---- the texts of 1 to n, one after the other
pub first_text : (p : Page) (n : ℕ) (f : ℕ → List ℕ) → n ≡ 0 → p ≡ typed_on p (text_up_to n f)
unfolding text_up_to typed_on typed
first_text p n f e = rw e

pub next_text : (o p q : Page) (k n : ℕ) (f : ℕ → List ℕ) → 1 ≤ k → n ≡ k → p ≡ typed_on o (text_up_to (k - 1) f) → q ≡ typed_on p (f k) → q ≡ typed_on o (text_up_to n f)
unfolding text_up_to
next_text o p q zero n f h e at_k here = absurd (omega arith)
next_text o p q (suc k) n f h e at_k here = rw e (typed_in_turn o p q _ _ (rw sub-one at at_k) here)

-- ---- digits: none of the last 0; a number below ten is its one digit; before the last digit stand those of the tenth
pub no_digits_on : (p : Page) (n k : ℕ) → n ≡ 0 → p ≡ typed_on p (digits n k)
unfolding digits typed_on typed
no_digits_on p n k e = rw e

pub last_digit_on : (o p q : Page) (n k : ℕ) → 0 < n → 10 ≤ k → p ≡ typed_on o (digits (n - 1) (k / 10)) → q ≡ typed_on p (digit (k % 10))
    → q ≡ typed_on o (digits n k)
unfolding digits pick
last_digit_on o p q zero k h l e f = absurd (omega arith)
last_digit_on o p q (suc n) k h l e f = rw (le-ltb k 10 l) (typed_in_turn o p q _ _ (rw sub-one at e) f)

pub only_digit_on : (o q : Page) (n k : ℕ) → 0 < n → k < 10 → q ≡ typed_on o (digit (k % 10)) → q ≡ typed_on o (digits n k)
unfolding digits pick
only_digit_on o q zero k h l e = absurd (omega arith)
only_digit_on o q (suc n) k h l e = let same : k % 10 ≡ k = omega arith in rw (lt-ltb k 10 l) (rw same at e)

-- ---- what was lent
pub same_buffer : (p : Page) (t : List ℕ) → (typed_on p t).buffer.ghost_name ≡ p.buffer.ghost_name
unfolding typed_on
same_buffer p t = refl

pub typed_page : (p q : Page) (t : List ℕ) → q ≡ typed_on p t → page_of q ≡ typed (page_of p) t
unfolding typed_on
typed_page p q t e = rw e

-- the buffer keeps its length, and the place stays within it
pub same_length : (p q : Page) (t : List ℕ) → q ≡ typed_on p t → length q.buffer.now ≡ length p.buffer.now
same_length p q t e = same_room q.buffer.now p.buffer.now q.place p.place t (typed_page p q t e)

pub typed_within : (p q : Page) (t : List ℕ) → p.place ≤ length p.buffer.now → q ≡ typed_on p t → q.place ≤ length p.buffer.now
typed_within p q t h e = rw (same_length p q t e) at (within_buffer p.buffer.now q.buffer.now p.place q.place t h (typed_page p q t e))

-- the page that a function makes, types on and leaves: the buffer that it was lent, and the place reached
pub typed_from : (b : MutBor (List ℕ)) (p q : Page) (t : List ℕ) (m n : ℕ) → p ≡ page_from b m → q ≡ typed_on p t → n ≡ q.place → page q.buffer.now n ≡ typed (page b.now m) t
typed_from b p q t m n start e place = rw place (rw start at (typed_page p q t e))

-- and from the buffer's start on, with room for the text in its m bytes
pub stands_first : (b : MutBor (List ℕ)) (p q : Page) (t : List ℕ) (m n : ℕ) → p ≡ page_from b 0 → length b.now ≡ m → length t ≤ m → q ≡ typed_on p t → n ≡ q.place
    → StandsFirst m t n b.now q.buffer.now
stands_first b p q t m n start long room e place = printed_whole b.now q.buffer.now t m n long room (typed_from b p q t 0 n start e place)

-- for `using`: a chain of calls of the page's methods is proved by these
pub ruleset typing = (typed_on_nil, typed_on_cons, typed_on_append, same_buffer)
