-- Laws of forms, whatever the list of them: a text begins a line of one of the forms exactly if it can be gone on with to a line
-- of one; the column of a line is one more than the bytes that can be followed; and a line is read byte by byte.
use Prim.Native.Nat.{ℕ, zero, suc, ◌+◌, ◌≤◌}
use Prim.Native.Char.{code}
use mathlib.Core.Path.{◌≡◌, refl, sym, ◌∙◌, ap, subst}
use mathlib.Core.Bool.{Bool, true, false, ◌||◌}
use mathlib.Core.List.{List, [], ◌∷◌, ◌++◌, flat_map, append-nil}
use native.Mathlib.Nat.{le_of_eq}
use native.Mathlib.Omega.{arith}
use borrow.Author.Tests.{eq-eqb}
use lib.ListN.{length, take}
use lib.Seq.{take_all}
use Rattle.std.proofs.lemmas.List.Concat.{flat_map-append}
use Rattle.view.specs.Logic.{pick}
use Rattle.view.specs.View.{with}
use Rattle.view.proofs.Laws.{true_is_not_false, or_left, or_right, by_pick}
use Rattle.std.specs.Prelude.{Result, Ok, Err}
use Rattle.sheet.specs.declared.parse.BadFrom.{BadFrom}
use Rattle.sheet.specs.Grammar.{Piece, byte, size, digit, view, more, Form, form, rises, value_of, when, passed, ended, onward, ends_as, followed, readings, some, allowed, begins, greatest, column, from_column, first_reading, read}

-- ---- two lists of forms, and two texts, one after the other
pub some-append : {X : Type 0} (xs ys : List X) → some (xs ++ ys) ≡ (some xs || some ys)
unfolding some
some-append [] ys = refl
some-append (x ∷ xs) ys = refl

followed-append : {A : Type 0} (xs ys : List (Form A)) (l : List ℕ) → followed (xs ++ ys) l ≡ followed xs l ++ followed ys l
unfolding followed flat_map
followed-append xs ys [] = refl
followed-append xs ys (b ∷ bs) = ap (λ zs. followed zs bs) (flat_map-append (onward b) xs ys) ∙ followed-append (flat_map (onward b) xs) (flat_map (onward b) ys) bs

followed_none : {A : Type 0} (l : List ℕ) → followed {A = A} [] l ≡ []
unfolding followed flat_map
followed_none [] = refl
followed_none (b ∷ bs) = followed_none bs

followed_on : {A : Type 0} (xs : List (Form A)) (l m : List ℕ) → followed xs (l ++ m) ≡ followed (followed xs l) m
unfolding followed
followed_on xs [] m = refl
followed_on xs (b ∷ bs) m = followed_on (flat_map (onward b) xs) bs m

readings-append : {A : Type 0} (xs ys : List (Form A)) (l : List ℕ) → readings (xs ++ ys) l ≡ readings xs l ++ readings ys l
unfolding readings flat_map
readings-append xs ys l = ap (flat_map ends_as) (followed-append xs ys l) ∙ flat_map-append ends_as (followed xs l) (followed ys l)

-- ---- every form can be gone on with to a line of it
completion : List Piece → List ℕ
completion [] = []
completion (byte c ∷ ps) = c ∷ completion ps
completion (size ∷ ps) = code "1" ∷ completion ps
completion (digit ∷ ps) = code "0" ∷ completion ps
completion (view ∷ ps) = code "-" ∷ completion ps
completion (more last v ∷ ps) = completion ps

-- one of two lists of forms leads to a line
pub in_second : {A : Type 0} (xs ys : List (Form A)) (l : List ℕ) → some (readings ys l) ≡ true → some (readings (xs ++ ys) l) ≡ true
in_second xs ys l e = rw (readings-append xs ys l, some-append (readings xs l) (readings ys l)) (or_right (some (readings xs l)) (some (readings ys l)) e)

pub in_first_lem : {A : Type 0} (xs ys : List (Form A)) (l : List ℕ) → some (readings xs l) ≡ true → some (readings (xs ++ ys) l) ≡ true
in_first_lem xs ys l e = rw (readings-append xs ys l, some-append (readings xs l) (readings ys l)) (or_left (some (readings xs l)) (some (readings ys l)) e)

-- a view that has begun may end before the text
module _ {A : Type 0} (says : (ℕ → ℕ) → A) (fs : List ℕ) (last v : ℕ) (ps : List Piece) where
  pub view_ends : (l : List ℕ) → some (readings (form says (fs ++ (v ∷ [])) ps ∷ []) l) ≡ true → some (readings (form says fs (more last v ∷ ps) ∷ []) l) ≡ true
  unfolding readings followed flat_map passed ended
  view_ends [] e = e
  view_ends (b ∷ bs) e =
      rw (append-nil (when (rises last b) (form says fs (more b (with v (value_of b)) ∷ ps)) ++ passed says (fs ++ (v ∷ [])) ps b))
      (in_second (when (rises last b) (form says fs (more b (with v (value_of b)) ∷ ps))) (passed says (fs ++ (v ∷ [])) ps b) bs
      (rw (append-nil (passed says (fs ++ (v ∷ [])) ps b)) at e))

pub byte-read : {A : Type 0} (says : (ℕ → ℕ) → A) (fs : List ℕ) (c : ℕ) (ps : List Piece) (l : List ℕ)
    → readings (form says fs (byte c ∷ ps) ∷ []) (c ∷ l) ≡ readings (form says fs ps ∷ []) l
unfolding readings followed flat_map passed pick
byte-read {A} says fs c ps l = ap (λ (t : Bool). flat_map (ends_as {A = A}) (followed (when t (form says fs ps) ++ []) l)) (eq-eqb c c refl)

completed : {A : Type 0} (says : (ℕ → ℕ) → A) (fs : List ℕ) (ps : List Piece) → some (readings (form says fs ps ∷ []) (completion ps)) ≡ true
unfolding readings followed flat_map passed ended some pick completion
completed says fs [] = refl
completed says fs (byte c ∷ ps) = ap some (byte-read says fs c ps (completion ps)) ∙ completed says fs ps
completed says fs (size ∷ ps) = completed says _ ps
completed says fs (digit ∷ ps) = completed says _ ps
completed says fs (view ∷ ps) = completed says _ ps
completed says fs (more last v ∷ ps) = view_ends says fs last v ps (completion ps) (completed says _ ps)

-- ---- a text begins a line of one of the forms exactly if some rest makes it one
pub record GoesOn {A : Type 0} (xs : List (Form A)) (l : List ℕ) : Type 0 where
  pub rest : List ℕ
  pub line : allowed xs (l ++ rest) ≡ true

pub begins_goes_on : {A : Type 0} (xs : List (Form A)) (l : List ℕ) → begins xs l ≡ true → GoesOn xs l
unfolding begins some allowed readings
begins_goes_on {A} xs l e = by (followed xs l) refl e
  where
    by : (ys : List (Form A)) → followed xs l ≡ ys → some ys ≡ true → GoesOn xs l
    by [] is e = true_is_not_false (sym e)
    by (y ∷ ys) is e =
        record {
          rest = completion y.left;
          line =
              rw (followed_on xs l (completion y.left), is)
              (in_first_lem (y ∷ []) ys (completion y.left) (completed y.says y.fields y.left));
        }

pub goes_on_begins : {A : Type 0} (xs : List (Form A)) (l rest : List ℕ) → allowed xs (l ++ rest) ≡ true → begins xs l ≡ true
unfolding allowed begins readings some flat_map
goes_on_begins {A} xs l rest e = by (followed xs l) (rw (followed_on xs l rest) at e)
  where
    by : (ys : List (Form A)) → some (flat_map ends_as (followed ys rest)) ≡ true → some ys ≡ true
    by [] e = true_is_not_false (sym (rw (followed_none rest) at e))
    by (y ∷ ys) e = refl

-- ---- the column
-- how many bytes can be followed
unfoldable pub reached : {A : Type 0} → List (Form A) → List ℕ → ℕ
reached xs [] = 0
reached xs (b ∷ bs) = pick (some (flat_map (onward b) xs)) (suc (reached (flat_map (onward b) xs) bs)) 0

greatest_none : (n : ℕ) (f : ℕ → Bool) → ((k : ℕ) → f (suc k) ≡ false) → greatest n f ≡ 0
unfolding greatest pick
greatest_none zero f h = refl
greatest_none (suc n) f h = rw (h n) (greatest_none n f h)

greatest_more : (n : ℕ) (f : ℕ → Bool) → f 1 ≡ true → greatest (suc n) f ≡ suc (greatest n (λ k. f (suc k)))
unfolding greatest pick
greatest_more zero f e = rw e
greatest_more (suc n) f e = by (f (suc (suc n))) (greatest_more n f e)
  where
    by : (t : Bool) → greatest (suc n) f ≡ suc (greatest n (λ k. f (suc k))) → pick t (suc (suc n)) (greatest (suc n) f) ≡ suc (pick t (suc n) (greatest n (λ k. f (suc k))))
    by true h = refl
    by false h = h

greatest_small : (n : ℕ) (f : ℕ → Bool) → greatest n f ≤ n
unfolding greatest
greatest_small zero f = omega arith
greatest_small (suc n) f = by_pick (λ (k : ℕ). k ≤ suc n) (f (suc n)) _ _ (λ e. omega arith) (λ e. omega (arith, greatest_small n f))

greatest_top : (n : ℕ) (f : ℕ → Bool) → f n ≡ true → greatest n f ≡ n
unfolding greatest pick
greatest_top zero f e = refl
greatest_top (suc n) f e = rw e

-- "for a line that merely breaks off, that is its length plus 1"
pub column_past_the_end : {A : Type 0} (xs : List (Form A)) (l : List ℕ) → begins xs l ≡ true → column xs l ≡ length l + 1
unfolding column
column_past_the_end xs l e =
    ap (λ (k : ℕ). k + 1)
    (greatest_top (length l) (λ k. begins xs (take k l)) (subst (λ (t : List ℕ). begins xs t ≡ true) (sym (take_all (length l) l (le_of_eq refl))) e))

-- "counted from 1"; at most one more than the line's length, where it merely breaks off
pub column_from_1 : {A : Type 0} (xs : List (Form A)) (l : List ℕ) → (1 ≤ column xs l) × (column xs l ≤ length l + 1)
unfolding column
column_from_1 xs l = (omega arith, omega (arith, greatest_small (length l) (λ k. begins xs (take k l))))

-- by what the first byte leads to
longest_by : {A : Type 0} (xs ys : List (Form A)) (b : ℕ) (bs : List ℕ) → flat_map (onward b) xs ≡ ys
    → greatest (length bs) (λ k. begins ys (take k bs)) ≡ reached ys bs
    → greatest (suc (length bs)) (λ k. begins xs (take k (b ∷ bs))) ≡ pick (some ys) (suc (reached ys bs)) 0
unfolding begins followed some pick
longest_by {A} xs [] b bs is h =
    greatest_none (suc (length bs)) (λ k. begins xs (take k (b ∷ bs)))
    (λ k. ap (λ (zs : List (Form A)). some (followed zs (take k bs))) is ∙ ap some (followed_none (take k bs)))
longest_by {A} xs (y ∷ ys) b bs is h =
    greatest_more (length bs) (λ k. begins xs (take k (b ∷ bs))) (ap some is)
    ∙ ap suc (ap (λ (zs : List (Form A)). greatest (length bs) (λ k. begins zs (take k bs))) is ∙ h)

longest : {A : Type 0} (xs : List (Form A)) (l : List ℕ) → greatest (length l) (λ k. begins xs (take k l)) ≡ reached xs l
unfolding greatest reached
longest xs [] = refl
longest xs (b ∷ bs) = longest_by xs (flat_map (onward b) xs) b bs refl (longest (flat_map (onward b) xs) bs)

pub column_is : {A : Type 0} (xs : List (Form A)) (l : List ℕ) → column xs l ≡ reached xs l + 1
unfolding column
column_is xs l = ap (λ (k : ℕ). k + 1) (longest xs l)

-- ---- a line read byte by byte: k bytes have been followed to these forms, and l is left
abbrev pub bad : {A : Type 0} → ℕ → Result A BadFrom
bad k = Err (from_column k)

unfoldable pub read_from : {A : Type 0} → List (Form A) → ℕ → List ℕ → Result A BadFrom
read_from xs k l = first_reading (readings xs l) (from_column (k + reached xs l + 1))

module _ {A : Type 0} (xs : List (Form A)) where
  pub read_from_lem : (l : List ℕ) → read xs l ≡ read_from xs 0 l
  unfolding read read_from
  read_from_lem l = let e : column xs l ≡ 0 + reached xs l + 1 = omega (arith, column_is xs l) in rw e

  pub goes_on : (k b : ℕ) (bs : List ℕ) (ys : List (Form A)) → flat_map (onward b) xs ≡ ys → some ys ≡ true → read_from xs k (b ∷ bs) ≡ read_from ys (suc k) bs
  unfolding read_from readings reached followed pick
  goes_on k b bs ys is e = let s : k + suc (reached ys bs) + 1 ≡ suc k + reached ys bs + 1 = omega arith in rw (is, e, s)

  pub is_stuck : (k b : ℕ) (bs : List ℕ) → flat_map (onward b) xs ≡ [] → read_from xs k (b ∷ bs) ≡ bad (k + 1)
  unfolding read_from readings reached followed pick some flat_map first_reading
  is_stuck k b bs is = let z : k + 0 + 1 ≡ k + 1 = omega arith in rw (is, followed_none bs) (ap bad z)

  pub breaks_off : (k : ℕ) → flat_map ends_as xs ≡ [] → read_from xs k [] ≡ bad (k + 1)
  unfolding read_from readings reached followed first_reading
  breaks_off k is = let z : k + 0 + 1 ≡ k + 1 = omega arith in rw is (ap bad z)

  pub ends : (k : ℕ) (a : A) (rest : List A) → flat_map ends_as xs ≡ a ∷ rest → read_from xs k [] ≡ Ok a
  unfolding read_from readings reached followed first_reading
  ends k a rest is = rw is

  -- what the next byte leads to decides
  pub same_next : (ys : List (Form A)) (k b : ℕ) (bs : List ℕ) → flat_map (onward b) xs ≡ flat_map (onward b) ys → read_from xs k (b ∷ bs) ≡ read_from ys k (b ∷ bs)
  unfolding read_from readings reached followed
  same_next ys k b bs is = ap (λ (zs : List (Form A)). first_reading (flat_map ends_as (followed zs bs)) (from_column (k + pick (some zs) (suc (reached zs bs)) 0 + 1))) is

  pub same_end : (ys : List (Form A)) (k : ℕ) → flat_map ends_as xs ≡ flat_map ends_as ys → read_from xs k [] ≡ read_from ys k []
  unfolding read_from readings reached followed
  same_end ys k is = ap (λ (zs : List A). first_reading zs (from_column (k + 0 + 1))) is
