-- Laws of typing on a page, and of numbers and views as texts.
use Prim.Native.Nat.{ℕ, suc, ◌+◌, ◌≤◌}
use mathlib.Core.Path.{◌≡◌, refl, sym, ◌∙◌, ap}
use mathlib.Core.Bool.{Bool, true, false}
use mathlib.Core.List.{List, [], ◌∷◌, ◌++◌}
use native.Mathlib.Omega.{arith}
use native.Mathlib.Nat.{add-zero, zero-add, add-suc, suc-add}
use native.Mathlib.Numerals.{add-one}
use borrow.Author.Tests.{lt-ltb, le-ltb, ltb-true}
use lib.Dec.{ltb}
use lib.ListN.{length, take, drop, set, length-set}
use lib.Seq.{sets, sets-eq}
use Rattle.view.specs.Logic.{pick, is_one_of}
use Rattle.view.proofs.Laws.{and_left, one_of}
use Rattle.view.specs.View.{has}
use Rattle.print.specs.Page.{Page, page, typed_byte, typed, StandsFirst}

-- ---- one byte
pub no_room : (b : List ℕ) (n x : ℕ) → length b ≤ n → page b n ≡ typed (page b n) (x ∷ [])
unfolding typed typed_byte pick
no_room b n x h = rw (le-ltb n (length b) h)

-- ---- texts in turn
pub typed-append : (p : Page) (a b : List ℕ) → typed p (a ++ b) ≡ typed (typed p a) b
unfolding typed
typed-append p [] b = refl
typed-append p (x ∷ a) b = typed-append (typed_byte p x) a b

pub in_turn : (o p q : Page) (a b : List ℕ) → p ≡ typed o a → q ≡ typed p b → q ≡ typed o (a ++ b)
in_turn o p q a b e f = rw (typed-append o a b, ← e) f

-- ---- the buffer keeps its length
byte_keeps_length : (p : Page) (x : ℕ) → length (typed_byte p x).buffer ≡ length p.buffer
unfolding typed_byte pick
byte_keeps_length p x = by (ltb p.place (length p.buffer))
  where
    by : (r : Bool) → length (pick r (page (set p.buffer p.place x) (p.place + 1)) p).buffer ≡ length p.buffer
    by true = length-set p.buffer p.place x
    by false = refl

keeps_length : (p : Page) (t : List ℕ) → length (typed p t).buffer ≡ length p.buffer
unfolding typed
keeps_length p [] = refl
keeps_length p (x ∷ t) = keeps_length (typed_byte p x) t ∙ byte_keeps_length p x

pub same_room : (b c : List ℕ) (n m : ℕ) (t : List ℕ) → page b n ≡ typed (page c m) t → length b ≡ length c
same_room b c n m t e = ap (λ (p : Page). length p.buffer) e ∙ keeps_length (page c m) t

-- ---- the place stays within the buffer
byte-stays-within : (p : Page) (x : ℕ) → p.place ≤ length p.buffer → (typed_byte p x).place ≤ length (typed_byte p x).buffer
unfolding typed_byte pick
byte-stays-within p x h = by (ltb p.place (length p.buffer)) refl
  where
    by : (r : Bool) → ltb p.place (length p.buffer) ≡ r
        → (pick r (page (set p.buffer p.place x) (p.place + 1)) p).place
        ≤ length (pick r (page (set p.buffer p.place x) (p.place + 1)) p).buffer
    by true e = omega (arith, ltb-true p.place (length p.buffer) e, length-set p.buffer p.place x)
    by false e = h

stays_within : (p : Page) (t : List ℕ) → p.place ≤ length p.buffer → (typed p t).place ≤ length (typed p t).buffer
unfolding typed
stays_within p [] h = h
stays_within p (x ∷ t) h = stays_within (typed_byte p x) t (byte-stays-within p x h)

pub within_buffer : (b c : List ℕ) (m n : ℕ) (t : List ℕ) → m ≤ length b → page c n ≡ typed (page b m) t → n ≤ length c
within_buffer b c m n t h e = rw (← e) at (stays_within (page b m) t h)

-- ---- a text for which there is room
sets_typed : (b : List ℕ) (n : ℕ) (t : List ℕ) → n + length t ≤ length b → typed (page b n) t ≡ page (sets b n t) (n + length t)
unfolding typed typed_byte pick
sets_typed b n [] h = rw add-zero
sets_typed b n (x ∷ t) h =
    rw (lt-ltb n (length b) (omega arith), add-one, sets_typed (set b n x) (suc n) t (omega (arith, length-set b n x)), add-suc, suc-add)

-- it stands from the place on, and the rest of the buffer is as it was
pub fits_in : (b : List ℕ) (n : ℕ) (t : List ℕ) → n + length t ≤ length b
    → typed (page b n) t ≡ page (take n b ++ t ++ drop (n + length t) b) (n + length t)
fits_in b n t h = sets_typed b n t h ∙ ap (λ (l : List ℕ). page l (n + length t)) (sets-eq t b n h)

-- a page typed from its start on, with room for the text in a buffer of m bytes: the text is the buffer's first bytes, and the others stay
pub printed_whole : (b c t : List ℕ) (m n : ℕ) → length b ≡ m → length t ≤ m → page c n ≡ typed (page b 0) t
    → StandsFirst m t n b c
printed_whole b c t m n long room e =
    let all : page c n ≡ page (take 0 b ++ t ++ drop (0 + length t) b) (0 + length t) = e ∙ fits_in b 0 t (omega arith) in
    let count : n ≡ length t = ap (λ (p : Page). p.place) all ∙ zero-add (length t) in
    record {
      counted = count;
      printed = ap (λ (p : Page). p.buffer) all ∙ ap (λ (k : ℕ). t ++ drop k b) (zero-add (length t) ∙ sym count);
      within = omega arith;
    }

-- ---- views
pub small_member : (v k : ℕ) → has v k ≡ true → k ≤ 8
unfolding has
small_member v k e = (one_of 8 k (and_left (is_one_of 8 k) _ e)).1
