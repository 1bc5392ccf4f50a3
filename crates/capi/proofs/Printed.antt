-- What typing a text on a page from its start leaves there, where it has room and where it has not.
use Prim.Native.Nat.{ℕ, ◌≤◌, min}
use mathlib.Core.Path.{◌≡◌, refl, sym, ◌∙◌, ap}
use mathlib.Core.List.{List, [], ◌∷◌, ◌++◌, append-nil}
use native.Mathlib.Decide.{dec_le}
use native.Mathlib.Omega.{arith}
use native.Mathlib.Nat.{le_of_eq, lt_of_not-le, zero-add, min-eq_left, min-eq_right}
use lib.ListN.{length, take, drop, take-append-drop, drop_of_length-le}
use lib.Seq.{take_all, length-take-le}
use Rattle.print.specs.Page.{Page, page, typed}
use Rattle.print.proofs.Laws.{in_turn, fits_in, no_room}
use Rattle.capi.specs.Calls.{Prints}

-- a page whose text has room
room_left : (b t : List ℕ) → length t ≤ length b → typed (page b 0) t ≡ page (take (length b) t ++ drop (length t) b) (min (length t) (length b))
room_left b t h =
    fits_in b 0 t (omega arith)
    ∙ rw (zero-add (length t), take_all (length b) t h, min-eq_left h)

-- a full page takes nothing more
full : (b : List ℕ) (n : ℕ) (t : List ℕ) → length b ≤ n → typed (page b n) t ≡ page b n
unfolding typed
full b n [] h = refl
full b n (x ∷ t) h = ap (λ (p : Page). typed p t) (sym (no_room b n x h)) ∙ full b n t h

cut_off : (b t : List ℕ) → length b ≤ length t → typed (page b 0) t ≡ page (take (length b) t ++ drop (length t) b) (min (length t) (length b))
cut_off b t h =
    let k = length b in
    let a = take k t in
    let long : length a ≡ k = length-take-le k t h in
    let first : typed (page b 0) a ≡ page a k =
    room_left b a (le_of_eq long)
    ∙ rw (long, take_all k a (le_of_eq long), drop_of_length-le b (le_of_eq refl), append-nil a, min-eq_left (le_of_eq refl)) in
    ap (typed (page b 0)) (sym (take-append-drop k t))
    ∙ sym (in_turn (page b 0) (typed (page b 0) a) (typed (typed (page b 0) a) (drop k t)) a (drop k t) refl refl)
    ∙ ap (λ (p : Page). typed p (drop k t)) first
    ∙ full a k (drop k t) (le_of_eq long)
    ∙ rw (drop_of_length-le b h, append-nil a, min-eq_right h)

typed_from_start : (b t : List ℕ) → typed (page b 0) t ≡ page (take (length b) t ++ drop (length t) b) (min (length t) (length b))
typed_from_start b t = by (dec_le (length t) (length b))
  where
    by : Dec (length t ≤ length b) → typed (page b 0) t ≡ page (take (length b) t ++ drop (length t) b) (min (length t) (length b))
    by (yes h) = room_left b t h
    by (no h) = cut_off b t (omega (arith, lt_of_not-le h))

pub printed : (b c t : List ℕ) (n : ℕ) → page c n ≡ typed (page b 0) t → Prints t b n c
printed b c t n e =
    let f = e ∙ typed_from_start b t in
    record { count = ap (λ (p : Page). p.place) f; buffer = ap (λ (p : Page). p.buffer) f }
