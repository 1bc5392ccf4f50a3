-- How the code goes through a line, and what that means for the forms: piece by piece.
use Prim.Native.Nat.{ℕ, suc, ◌+◌, ◌-◌, ◌≤◌, ◌<◌}
use mathlib.Core.Path.{◌≡◌, refl, sym, ◌∙◌, ap, subst}
use mathlib.Core.Bool.{Bool, true, false, ◌&&◌}
use mathlib.Core.List.{List, [], ◌∷◌, ◌++◌, map, flat_map}
use native.Mathlib.Omega.{arith}
use native.Mathlib.Numerals.{add-one}
use borrow.Author.Tests.{eq-eqb, ne_eqb, lt-ltb, le-leb, eqb-true, leb-true, ltb-true, ltb-false}
use Rattle.std.proofs.lemmas.Bool.Decides.{nat_tests}
use mathlib.Core.Logic.{◌⊎◌}
use lib.Dec.{eqb, ltb, leb}
use lib.ListN.{length, get_or, drop, drop_of_length-le}
use lib.Seq.{drop-cons, drop-drop}
use Rattle.view.specs.Logic.{pick}
use Rattle.view.specs.View.{has, with}
use Rattle.view.proofs.Sets.{not_empty, with_new, with_old}
use Rattle.view.proofs.Laws.{true_is_not_false, by_pick, by_test, and_left, and_right, and_intro}
use Rattle.print.specs.Text.{bytes}
use Rattle.std.specs.Prelude.{Result, Ok, Err, IsErrAnd}
use Rattle.std.proofs.lemmas.Result.{err_from_is_err_and}
use Rattle.sheet.specs.declared.parse.BadFrom.{BadFrom}
use Rattle.sheet.specs.Grammar.{Piece, byte, size, digit, view, more, Form, form, rises, value_of, from_column, when, passed, ended, onward, ends_as, some}
use Rattle.sheet.specs.Cursor.{◌>>=◌, byte_at, text_at, digit_at, process_named_at, risen, some_view, view_from, view_at, end_at}
use Rattle.sheet.proofs.Forms.{bad, read_from, goes_on, is_stuck, breaks_off, ends, same_next, same_end}

-- ---- the code's `?`
module _ {A B : Type 0} where
  pub then_same : (r : Result A BadFrom) (f g : A → Result B BadFrom) → ((a : A) → r ≡ Ok a → f a ≡ g a) → (r >>= f) ≡ (r >>= g)
  then_same (Ok a) f g h = h a refl
  then_same (Err e) f g h = refl

  pub then_then : {C : Type 0} (r : Result A BadFrom) (f : A → Result B BadFrom) (g : B → Result C BadFrom) → (r >>= f >>= g) ≡ (r >>= λ a. f a >>= g)
  then_then (Ok a) f g = refl
  then_then (Err e) f g = refl

-- what a `?` returns where it stops
pub gives_up : {A B : Type 0} (out : Result B BadFrom) (e : BadFrom) (r : Result A BadFrom) (f : A → Result B BadFrom)
    → IsErrAnd out (λ d. d ≡ e) → Err e ≡ r → out ≡ (r >>= f)
gives_up out e r f left is = let p = err_from_is_err_and out left in rw (p.1, p.2, ← is)

-- ---- a byte from `low` to `high`
pub record Byte (low high : ℕ) (l : List ℕ) (at b k : ℕ) : Type 0 where
  pub inside : at < length l
  pub is : get_or l at 0 ≡ b
  pub low_enough : low ≤ b
  pub high_enough : b ≤ high
  pub next : k ≡ at + 1

module _ (low high : ℕ) (l : List ℕ) (at : ℕ) where
  pub byte_is : (b k : ℕ) → byte_at low high l at ≡ Ok (b, k) → Byte low high l at b k
  unfolding byte_at pick
  byte_is b k e = grind (arith, nat_tests)

  -- another byte stands there, or the line ends
  pub byte_differs : (e : BadFrom) → byte_at low high l at ≡ Err e → at < length l → (get_or l at 0 < low) ⊎ (high < get_or l at 0)
  unfolding byte_at pick
  byte_differs e is h = grind (arith, nat_tests)

  pub byte_column : (e : BadFrom) → byte_at low high l at ≡ Err e → e ≡ from_column (at + 1)
  unfolding byte_at pick
  byte_column e is = grind (arith, nat_tests)

-- ---- the code's loop over a text, after i bytes of it, at this place of the line
module _ (t l : List ℕ) (i at : ℕ) where
  pub text_done : length t ≤ i → text_at (drop i t) l at ≡ Ok (tt, at)
  unfolding text_at
  text_done h = rw (drop_of_length-le t h)

  module _ (h : i < length t) where
    pub text_goes_on : (b k : ℕ) → byte_at (get_or t i 0) (get_or t i 0) l at ≡ Ok (b, k) → text_at (drop i t) l at ≡ text_at (drop (i + 1) t) l k
    unfolding text_at
    text_goes_on b k e = rw (add-one i, drop-cons t i 0 h, e)

    pub text_fails : (e : BadFrom) → byte_at (get_or t i 0) (get_or t i 0) l at ≡ Err e → text_at (drop i t) l at ≡ Err e
    unfolding text_at
    text_fails e is = rw (drop-cons t i 0 h, is)

-- ---- the forms of a list that all have the same pieces before what is left of them
abbrev pub ahead : {A : Type 0} → List Piece → List ℕ → Form A → Form A
ahead ps fs x = form x.says fs (ps ++ x.left)

-- the line is read from a place on
abbrev pub read_at : {A : Type 0} → List (Form A) → List ℕ → ℕ → Result A BadFrom
read_at xs l at = read_from xs at (drop at l)

pick_none : {X : Type 0} (t : Bool) → pick {A = List X} t [] [] ≡ []
unfolding pick
pick_none true = refl
pick_none false = refl

pick_more : {X : Type 0} (t : Bool) (a : X) (rest : List X) → when t a ++ pick t rest [] ≡ pick t (a ∷ rest) []
unfolding pick
pick_more true a rest = refl
pick_more false a rest = refl

-- a piece of one byte, from `low` to `high`, and the fields after it
module _ {A : Type 0} (p : Piece) (low high : ℕ) (fs : List ℕ) (gs : ℕ → List ℕ)
    (takes : (says : (ℕ → ℕ) → A) (qs : List Piece) (b : ℕ) → passed says fs (p ∷ qs) b ≡ when (leb low b && leb b high) (form says (gs b) qs))
    (wants : (says : (ℕ → ℕ) → A) (qs : List Piece) → ended says fs (p ∷ qs) ≡ []) (ps : List Piece) where
  takes_each : (b : ℕ) (xs : List (Form A)) → flat_map (onward b) (map (ahead (p ∷ ps) fs) xs) ≡ pick (leb low b && leb b high) (map (ahead ps (gs b)) xs) []
  unfolding flat_map
  takes_each b [] = sym (pick_none (leb low b && leb b high))
  takes_each b (x ∷ xs) =
      rw (takes x.says (ps ++ x.left) b, takes_each b xs) (pick_more (leb low b && leb b high) (ahead ps (gs b) x) (map (ahead ps (gs b)) xs))

  wants_each : (xs : List (Form A)) → flat_map ends_as (map (ahead (p ∷ ps) fs) xs) ≡ []
  unfolding flat_map
  wants_each [] = refl
  wants_each (x ∷ xs) = rw (wants x.says (ps ++ x.left)) (wants_each xs)

  piece_read : (x : Form A) (xs : List (Form A)) (l : List ℕ) (at : ℕ)
      → read_at (map (ahead (p ∷ ps) fs) (x ∷ xs)) l at ≡ (byte_at low high l at >>= λ b. read_at (map (ahead ps (gs b.0)) (x ∷ xs)) l b.1)
  unfolding byte_at pick some
  piece_read x xs l at =
      by_test (ltb at (length l))
      (λ e. rw (e, add-one at, drop-cons l at 0 (ltb-true at (length l) e)) (by (get_or l at 0) _ refl))
      (λ e. rw (e, drop_of_length-le l (ltb-false at (length l) e)) (breaks_off (map (ahead (p ∷ ps) fs) (x ∷ xs)) at (wants_each (x ∷ xs))))
    where
      by : (b : ℕ) (t : Bool) → (leb low b && leb b high) ≡ t
          → read_from (map (ahead (p ∷ ps) fs) (x ∷ xs)) at (b ∷ drop (suc at) l)
          ≡ (pick {A = Result (ℕ × ℕ) BadFrom} t (Ok (b, suc at)) (bad (suc at)) >>= λ b. read_at (map (ahead ps (gs b.0)) (x ∷ xs)) l b.1)
      by b true e = goes_on (map (ahead (p ∷ ps) fs) (x ∷ xs)) at b (drop (suc at) l) (map (ahead ps (gs b)) (x ∷ xs)) (takes_each b (x ∷ xs) ∙ rw e) refl
      by b false e = rw (add-one at) at (is_stuck (map (ahead (p ∷ ps) fs) (x ∷ xs)) at b (drop (suc at) l) (takes_each b (x ∷ xs) ∙ rw e))

same_byte : (c b : ℕ) → eqb c b ≡ (leb c b && leb b c)
same_byte c b = grind (arith, nat_tests)

module _ {A : Type 0} (x : Form A) (xs : List (Form A)) (l : List ℕ) where
  -- the line is read from a place on, where these pieces come next
  abbrev reading : List Piece → List ℕ → ℕ → Result A BadFrom
  reading ps fs at = read_at (map (ahead ps fs) (x ∷ xs)) l at

  byte_read : (c : ℕ) (ps : List Piece) (fs : List ℕ) (at : ℕ) → reading (byte c ∷ ps) fs at ≡ (byte_at c c l at >>= λ b. reading ps fs b.1)
  unfolding passed ended
  byte_read c ps fs at = piece_read (byte c) c c fs (λ b. fs) (λ says qs b. rw (same_byte c b)) (λ says qs. refl) ps x xs l at

  pub size_read : (ps : List Piece) (fs : List ℕ) (at : ℕ) → reading (size ∷ ps) fs at ≡ (byte_at 49 56 l at >>= λ b. reading ps (fs ++ (value_of b.0 ∷ [])) b.1)
  unfolding passed ended
  size_read ps fs at = piece_read size 49 56 fs (λ b. fs ++ (value_of b ∷ [])) (λ says qs b. refl) (λ says qs. refl) ps x xs l at

  pub digit_read : (ps : List Piece) (fs : List ℕ) (at : ℕ) → reading (digit ∷ ps) fs at ≡ (digit_at l at >>= λ d. reading ps (fs ++ (d.0 ∷ [])) d.1)
  unfolding passed ended digit_at
  digit_read ps fs at =
      piece_read digit 48 57 fs (λ b. fs ++ (value_of b ∷ [])) (λ says qs b. refl) (λ says qs. refl) ps x xs l at
      ∙ sym (then_then (byte_at 48 57 l at) _ _)

  pub text_read : (t : List ℕ) (ps : List Piece) (fs : List ℕ) (at : ℕ) → reading (map byte t ++ ps) fs at ≡ (text_at t l at >>= λ s. reading ps fs s.1)
  unfolding text_at
  text_read [] ps fs at = refl
  text_read (c ∷ t) ps fs at =
      byte_read c (map byte t ++ ps) fs at
      ∙ then_same (byte_at c c l at) _ _ (λ b e. text_read t ps fs b.1)
      ∙ sym (then_then (byte_at c c l at) _ _)

  pub process_read : (ps : List Piece) (fs : List ℕ) (at : ℕ)
      → reading (byte 32 ∷ digit ∷ ps) fs at ≡ (process_named_at l at >>= λ p. reading ps (fs ++ (p.0.0 ∷ [])) p.1)
  unfolding process_named_at bytes
  process_read ps fs at =
      text_read (bytes " ") (digit ∷ ps) fs at
      ∙ then_same (text_at (bytes " ") l at) _ _ (λ s e. digit_read ps fs s.1 ∙ sym (then_then (digit_at l s.1) _ _))
      ∙ sym (then_then (text_at (bytes " ") l at) _ _)

-- ---- the end of a line
pub end_read : {A : Type 0} (says : (ℕ → ℕ) → A) (fs l : List ℕ) (at : ℕ)
    → read_at (form says fs [] ∷ []) l at ≡ (end_at l at >>= λ end. Ok (says (λ i. get_or fs i 0)))
unfolding flat_map passed ended end_at pick
end_read says fs l at =
    by_test (ltb at (length l))
    (λ e. rw (e, drop-cons l at 0 (ltb-true at (length l) e)) (is_stuck (form says fs [] ∷ []) at (get_or l at 0) (drop (suc at) l) refl))
    (λ e. rw (e, drop_of_length-le l (ltb-false at (length l) e)) (ends (form says fs [] ∷ []) at _ [] refl))

-- ---- a view
-- what is left of a form cannot go on with a digit that a view could
abbrev pub Shut : {A : Type 0} → Form A → Type 0
Shut x = (fs : List ℕ) (last b : ℕ) → 48 ≤ last → rises last b ≡ true → passed x.says fs x.left b ≡ []

pub data AllShut {A : Type 0} : List (Form A) → Type 0 where
  none : AllShut []
  also : {x : Form A} {xs : List (Form A)} → Shut x → AllShut xs → AllShut (x ∷ xs)

-- a form that has a view, or the rest of one, before what is left of it
abbrev pub viewing : {A : Type 0} → List ℕ → Form A → Form A
viewing fs x = form x.says fs (view ∷ x.left)

abbrev pub amid : {A : Type 0} → ℕ → ℕ → List ℕ → Form A → Form A
amid last v fs x = form x.says fs (more last v ∷ x.left)

module _ {A : Type 0} (fs : List ℕ) where
  amid_ended : (last v : ℕ) (xs : List (Form A)) → flat_map ends_as (map (amid last v fs) xs) ≡ flat_map ends_as (map (ahead [] (fs ++ (v ∷ []))) xs)
  unfolding flat_map ended
  amid_ended last v [] = refl
  amid_ended last v (x ∷ xs) = rw (amid_ended last v xs)

  amid_other : (last v b : ℕ) (xs : List (Form A)) → rises last b ≡ false → flat_map (onward b) (map (amid last v fs) xs) ≡ flat_map (onward b) (map (ahead [] (fs ++ (v ∷ []))) xs)
  unfolding flat_map passed pick
  amid_other last v b [] e = refl
  amid_other last v b (x ∷ xs) e = rw (e, amid_other last v b xs e)

  amid_on : (last v b : ℕ) (xs : List (Form A)) → AllShut xs → 48 ≤ last → rises last b ≡ true → flat_map (onward b) (map (amid last v fs) xs) ≡ map (amid b (with v (value_of b)) fs) xs
  unfolding flat_map passed pick
  amid_on last v b [] none h e = refl
  amid_on last v b (x ∷ xs) (also s ss) h e = rw (e, s (fs ++ (v ∷ [])) last b h e, amid_on last v b xs ss h e)

  view_ended : (xs : List (Form A)) → flat_map ends_as (map (viewing fs) xs) ≡ []
  unfolding flat_map ended
  view_ended [] = refl
  view_ended (x ∷ xs) = view_ended xs

  view_dash : (xs : List (Form A)) → flat_map (onward 45) (map (viewing fs) xs) ≡ map (ahead [] (fs ++ (0 ∷ []))) xs
  unfolding flat_map passed pick
  view_dash [] = refl
  view_dash (x ∷ xs) = rw (view_dash xs)

  view_digit : (b : ℕ) (xs : List (Form A)) → eqb 45 b ≡ false → rises 48 b ≡ true → flat_map (onward b) (map (viewing fs) xs) ≡ map (amid b (with 0 (value_of b)) fs) xs
  unfolding flat_map passed pick
  view_digit b [] d e = refl
  view_digit b (x ∷ xs) d e = rw (d, e, view_digit b xs d e)

  view_other : (b : ℕ) (xs : List (Form A)) → eqb 45 b ≡ false → rises 48 b ≡ false → flat_map (onward b) (map (viewing fs) xs) ≡ []
  unfolding flat_map passed pick
  view_other b [] d e = refl
  view_other b (x ∷ xs) d e = rw (d, e) (view_other b xs d e)

rise : (last b : ℕ) → last < b → b ≤ 56 → rises last b ≡ true
rise last b low high = and_intro (lt-ltb last b low) (le-leb b 56 high)

-- the code's loop over the digits: what its turn for digit d makes of a line, from this place on
module _ (d v : ℕ) (l : List ℕ) (at : ℕ) (low : 49 ≤ d) (high : d ≤ 56) where
  pub digit_taken : (b k : ℕ) → byte_at d d l at ≡ Ok (b, k) → risen at (d - 1) v (drop at l) ≡ risen k d (with v (d - 48)) (drop k l)
  unfolding risen pick
  digit_taken b k e =
      let f = byte_is d d l at b k e in
      let same : get_or l at 0 ≡ d = omega (arith, f.is, f.low_enough, f.high_enough) in
      rw (f.next, add-one at, drop-cons l at 0 f.inside, same, rise (d - 1) d (omega arith) high)

  pub digit_passed : (e : BadFrom) → byte_at d d l at ≡ Err e → risen at (d - 1) v (drop at l) ≡ risen at d v (drop at l)
  unfolding risen pick
  digit_passed e is =
      by_test (ltb at (length l))
      (λ t. let h = ltb-true at (length l) t in
      let other = byte_differs d d l at e is h in
      let past : rises (d - 1) (get_or l at 0) ≡ rises d (get_or l at 0) = grind (arith, nat_tests) in
      rw (drop-cons l at 0 h, past))
      (λ t. rw (drop_of_length-le l (ltb-false at (length l) t)))

pub digits_over : (last v : ℕ) (l : List ℕ) (at : ℕ) → 56 ≤ last → risen at last v l ≡ (v, at)
unfolding risen pick
digits_over last v [] at h = refl
digits_over last v (b ∷ bs) at h = let none : rises last b ≡ false = grind (arith, nat_tests) in rw none

-- a view at this place of the line
module _ (l : List ℕ) (at : ℕ) where
  pub dash_there : (b k : ℕ) → byte_at 45 45 l at ≡ Ok (b, k) → view_from at (drop at l) ≡ Ok (0, k)
  unfolding view_from pick
  dash_there b k e =
      let f = byte_is 45 45 l at b k e in
      rw (f.next, drop-cons l at 0 f.inside, f.is, eq-eqb b 45 (omega (arith, f.low_enough, f.high_enough)))

  pub no_dash_there : (e : BadFrom) → byte_at 45 45 l at ≡ Err e → view_from at (drop at l) ≡ some_view (risen at 48 0 (drop at l))
  unfolding view_from pick
  no_dash_there e is =
      by_test (ltb at (length l))
      (λ t. let h = ltb-true at (length l) t in
      let other = byte_differs 45 45 l at e is h in
      rw (drop-cons l at 0 h, ne_eqb (get_or l at 0) 45 (λ s. grind arith)))
      (λ t. rw (drop_of_length-le l (ltb-false at (length l) t)))

-- a process that a view names is still named once more digits are added
risen_keeps : (k last v u : ℕ) (m : List ℕ) → 48 ≤ last → has v u ≡ true → has (risen k last v m).0 u ≡ true
unfolding risen
risen_keeps k last v u [] h e = e
risen_keeps k last v u (b ∷ bs) h e =
    by_pick (λ (w : ℕ × ℕ). has w.0 u ≡ true) (rises last b) _ _
    (λ r.
    let up : last < b = ltb-true last b (and_left (ltb last b) (leb b 56) r) in
    let top : b ≤ 56 = leb-true b 56 (and_right (ltb last b) (leb b 56) r) in
    risen_keeps (suc k) b (with v (value_of b)) u bs (omega arith) (with_old v (value_of b) u (omega arith) (omega arith) e))
    (λ r. e)

risen_some : (k b : ℕ) (bs : List ℕ) → rises 48 b ≡ true → some_view (risen k b (with 0 (value_of b)) bs) ≡ Ok (risen k b (with 0 (value_of b)) bs)
unfolding some_view pick
risen_some k b bs r =
    let up : 48 < b = ltb-true 48 b (and_left (ltb 48 b) (leb b 56) r) in
    let top : b ≤ 56 = leb-true b 56 (and_right (ltb 48 b) (leb b 56) r) in
    let named = risen_keeps k b (with 0 (value_of b)) (value_of b) bs (omega arith) (with_new 0 (value_of b) (omega arith) (omega arith)) in
    rw (ne_eqb (risen k b (with 0 (value_of b)) bs).0 0 (not_empty _ (value_of b) named))

-- a view ends at most eight places on
risen_high : (k last v : ℕ) (m : List ℕ) → last ≤ 56 → (risen k last v m).1 + last ≤ k + 56
unfolding risen
risen_high k last v [] h = omega arith
risen_high k last v (b ∷ bs) h =
    by_pick (λ (w : ℕ × ℕ). w.1 + last ≤ k + 56) (rises last b) _ _
    (λ e.
    let up : last < b = ltb-true last b (and_left (ltb last b) (leb b 56) e) in
    let top : b ≤ 56 = leb-true b 56 (and_right (ltb last b) (leb b 56) e) in
    omega (arith, risen_high (suc k) b (with v (value_of b)) bs top))
    (λ e. omega arith)

abbrev Near : ℕ → Result (ℕ × ℕ) BadFrom → Type 0
Near k (Ok w) = w.1 ≤ k + 8
Near k (Err bad) = Unit {0}

near : (k : ℕ) (m : List ℕ) → Near k (view_from k m)
unfolding view_from some_view
near k m =
    by_pick (Near k) (eqb (get_or m 0 0) 45) _ _ (λ e. omega arith)
    (λ e. by_pick (Near k) (eqb (risen k 48 0 m).0 0) _ _ (λ none. tt) (λ named. omega (arith, risen_high k 48 0 m (omega arith))))

pub view_near : (w : ℕ × ℕ) (k : ℕ) (m : List ℕ) → Ok w ≡ view_from k m → w.1 ≤ k + 8
view_near w k m is = subst (Near k) (sym is) (near k m)

next_rest : (l : List ℕ) (k b : ℕ) (bs : List ℕ) → drop k l ≡ b ∷ bs → drop (suc k) l ≡ bs
next_rest l k b bs e = let d : drop 1 (drop k l) ≡ drop (suc k) l = rw (← add-one k) (drop-drop 1 k l) in sym d ∙ ap (drop 1) e

module _ {A : Type 0} (x : Form A) (xs : List (Form A)) (shut : AllShut (x ∷ xs)) (fs l : List ℕ) where
  -- the rest of the line is read once the view has ended
  abbrev past : ℕ × ℕ → Result A BadFrom
  past w = read_at (map (ahead [] (fs ++ (w.0 ∷ []))) (x ∷ xs)) l w.1

  digits_read : (last v k : ℕ) (m : List ℕ) → drop k l ≡ m → 48 ≤ last → read_from (map (amid last v fs) (x ∷ xs)) k m ≡ past (risen k last v m)
  unfolding risen pick some
  digits_read last v k [] here h = rw here (same_end (map (amid last v fs) (x ∷ xs)) (map (ahead [] (fs ++ (v ∷ []))) (x ∷ xs)) k (amid_ended fs last v (x ∷ xs)))
  digits_read last v k (b ∷ bs) here h = by (rises last b) refl (digits_read b (with v (value_of b)) (suc k) bs (next_rest l k b bs here))
    where
      by : (t : Bool) → rises last b ≡ t
          → (48 ≤ b → read_from (map (amid b (with v (value_of b)) fs) (x ∷ xs)) (suc k) bs ≡ past (risen (suc k) b (with v (value_of b)) bs))
          → read_from (map (amid last v fs) (x ∷ xs)) k (b ∷ bs) ≡ past (pick t (risen (suc k) b (with v (value_of b)) bs) (v, k))
      by true e rest =
          let up : last < b = ltb-true last b (and_left (ltb last b) (leb b 56) e) in
          goes_on (map (amid last v fs) (x ∷ xs)) k b bs (map (amid b (with v (value_of b)) fs) (x ∷ xs)) (amid_on fs last v b (x ∷ xs) shut h e) refl ∙ rest (omega arith)
      by false e rest =
          rw here (same_next (map (amid last v fs) (x ∷ xs)) (map (ahead [] (fs ++ (v ∷ []))) (x ∷ xs)) k b bs (amid_other fs last v b (x ∷ xs) e))

  -- a view is there, and ends where the code says; or none is
  view_read_lem : (k : ℕ) (m : List ℕ) → drop k l ≡ m → read_from (map (viewing fs) (x ∷ xs)) k m ≡ (view_from k m >>= past)
  unfolding view_from risen some_view pick some
  view_read_lem k [] here = breaks_off (map (viewing fs) (x ∷ xs)) k (view_ended fs (x ∷ xs))
  view_read_lem k (b ∷ bs) here = by (eqb b 45) refl
    where
      digits : (t : Bool) → rises 48 b ≡ t → eqb 45 b ≡ false
          → read_from (map (viewing fs) (x ∷ xs)) k (b ∷ bs) ≡ (some_view (pick t (risen (suc k) b (with 0 (value_of b)) bs) (0, k)) >>= past)
      digits true e d =
          let up : 48 < b = ltb-true 48 b (and_left (ltb 48 b) (leb b 56) e) in
          rw (risen_some (suc k) b bs e)
          (goes_on (map (viewing fs) (x ∷ xs)) k b bs (map (amid b (with 0 (value_of b)) fs) (x ∷ xs)) (view_digit fs b (x ∷ xs) d e) refl
          ∙ digits_read b (with 0 (value_of b)) (suc k) bs (next_rest l k b bs here) (omega arith))
      digits false e d = is_stuck (map (viewing fs) (x ∷ xs)) k b bs (view_other fs b (x ∷ xs) d e)

      by : (t : Bool) → eqb b 45 ≡ t
          → read_from (map (viewing fs) (x ∷ xs)) k (b ∷ bs) ≡ (pick {A = Result (ℕ × ℕ) BadFrom} t (Ok (0, k + 1)) (some_view (risen k 48 0 (b ∷ bs))) >>= past)
      by true e =
          let d : b ≡ 45 = eqb-true b 45 e in
          rw (add-one k, next_rest l k b bs here, d) (goes_on (map (viewing fs) (x ∷ xs)) k 45 bs (map (ahead [] (fs ++ (0 ∷ []))) (x ∷ xs)) (view_dash fs (x ∷ xs)) refl)
      by false e = digits (rises 48 b) refl (ne_eqb 45 b (λ s. true_is_not_false (sym (eq-eqb b 45 (sym s)) ∙ e)))

  pub view_read : (at : ℕ) → read_at (map (ahead (byte 32 ∷ view ∷ []) fs) (x ∷ xs)) l at ≡ (view_at l at >>= past)
  unfolding view_at bytes
  view_read at =
      text_read x xs l (bytes " ") (view ∷ []) fs at
      ∙ then_same (text_at (bytes " ") l at) _ _ (λ s e. view_read_lem s.1 (drop s.1 l) refl)
      ∙ sym (then_then (text_at (bytes " ") l at) _ _)

-- for the methods of a cursor
pub ruleset steps = (gives_up, byte_is, text_done, text_goes_on, text_fails, dash_there, no_dash_there, digit_taken, digit_passed, digits_over)
