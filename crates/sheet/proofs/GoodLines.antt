-- Of every line: it is good exactly if it is allowed, and else it is bad at its column; what it says is read off a form that it is
-- written in.
use Prim.Native.Char.{code}
use Prim.Native.Nat.{ℕ}
use mathlib.Core.Path.{◌≡◌, refl, sym, ◌∙◌, ap, subst}
use mathlib.Core.Bool.{Bool, true, false}
use mathlib.Core.List.{List, [], ◌∷◌, ◌++◌, flat_map, append-nil, append_assoc}
use native.Mathlib.Omega.{arith}
use borrow.Author.Tests.{eqb-true}
use lib.Dec.{eqb}
use lib.ListN.{get_or}
use Rattle.view.specs.Logic.{pick, is_one_of}
use Rattle.view.specs.View.{with}
use Rattle.view.proofs.Laws.{is_one_of_lem}
use Rattle.print.specs.Text.{bytes}
use Rattle.std.specs.Prelude.{Result, Ok, Err, is_ok}
use Rattle.sheet.specs.declared.parse.BadFrom.{BadFrom}
use Rattle.sheet.specs.Grammar.{Piece, byte, size, digit, view, more, Form, form, is_digit, rises, value_of, when, passed, ended, onward, ends_as, followed, readings, some, allowed, column, from_column, first_reading, read}
use Rattle.sheet.specs.Parse.{first_forms, later_forms, opened, parsed}
use Rattle.sheet.specs.Cursor.{◌>>=◌, byte_at, text_at, end_at}
use Rattle.sheet.proofs.Forms.{bad, in_first_lem, in_second, byte-read, view_ends}
use Rattle.sheet.proofs.Parsing.{byte_is}
use Rattle.sheet.proofs.FirstBytes.{first_read}

-- ---- a good first line asks for 1 to 8 processes
by_then : {A B C : Type 0} (r : Result A BadFrom) (f : A → Result B BadFrom) (b : B) → (r >>= f) ≡ Ok b → ((a : A) → r ≡ Ok a → f a ≡ Ok b → C) → C
by_then (Ok a) f b e so = so a refl e
by_then (Err bad) f b e so = let never : ⊥ = cc in absurd never

pub fresh_size : (l : List ℕ) (n : ℕ) → opened l ≡ Ok n → is_one_of 8 n ≡ true
fresh_size l n e =
    by_then (text_at (bytes "u ") l 0) _ n (sym (first_read l) ∙ e)
    (λ s so e. by_then (byte_at 49 56 l s.1) _ n e
    (λ b there e. by_then (end_at l b.1) _ n e
    (λ end over e.
    let same : value_of b.0 ≡ n = cc in
    let byte = byte_is 49 56 l s.1 b.0 b.1 there in
    rw (← same) (is_one_of_lem 8 (value_of b.0) (omega (arith, byte.low_enough)) (omega (arith, byte.high_enough))))))

-- ---- the texts that a form stands for, with the values of their fields
pub data Written : List Piece → List ℕ → List ℕ → Type 0 where
  end : Written [] [] []
  a_byte : {ps : List Piece} {vs l : List ℕ} (c : ℕ) → Written ps vs l → Written (byte c ∷ ps) vs (c ∷ l)
  a_size : {ps : List Piece} {vs l : List ℕ} (b : ℕ) → is_digit "1" "8" b ≡ true → Written ps vs l → Written (size ∷ ps) (value_of b ∷ vs) (b ∷ l)
  a_digit : {ps : List Piece} {vs l : List ℕ} (b : ℕ) → is_digit "0" "9" b ≡ true → Written ps vs l → Written (digit ∷ ps) (value_of b ∷ vs) (b ∷ l)
  empty_view : {ps : List Piece} {vs l : List ℕ} → Written ps vs l → Written (view ∷ ps) (0 ∷ vs) (code "-" ∷ l)
  first_digit : {ps : List Piece} {vs l : List ℕ} (b : ℕ) → rises (code "0") b ≡ true → Written (more b (with 0 (value_of b)) ∷ ps) vs l → Written (view ∷ ps) vs (b ∷ l)
  next_digit : {ps : List Piece} {vs l : List ℕ} {last v : ℕ} (b : ℕ) → rises last b ≡ true → Written (more b (with v (value_of b)) ∷ ps) vs l → Written (more last v ∷ ps) vs (b ∷ l)
  no_more : {ps : List Piece} {vs l : List ℕ} {last v : ℕ} → Written ps vs l → Written (more last v ∷ ps) (v ∷ vs) l

-- ---- each form of a list
data All {A : Type 0} (Q : Form A → Type 0) : List (Form A) → Type 0 where
  none : All Q []
  also : {x : Form A} {xs : List (Form A)} → Q x → All Q xs → All Q (x ∷ xs)

all_both : {A : Type 0} (Q : Form A → Type 0) (xs ys : List (Form A)) → All Q xs → All Q ys → All Q (xs ++ ys)
all_both Q [] ys none h = h
all_both Q (x ∷ xs) ys (also p ps) h = also p (all_both Q xs ys ps h)

all_when : {A : Type 0} (Q : Form A → Type 0) (t : Bool) (x : Form A) → (t ≡ true → Q x) → All Q (when t x)
unfolding pick
all_when Q true x p = also (p refl) none
all_when Q false x p = none

-- ---- what is said is read off a form that the line is written in
module _ {A : Type 0} (P : A → Type 0) where
  -- P holds of what the form says, however the text is written in what is left of it
  abbrev Says : List ℕ → Form A → Type 0
  Says l x = (vs : List ℕ) → Written x.left vs l → P (x.says (λ i. get_or (x.fields ++ vs) i 0))

  -- a field more
  module _ (says : (ℕ → ℕ) → A) (fs : List ℕ) (a : ℕ) (ps qs : List Piece) (l m : List ℕ) where
    field_more : ((vs : List ℕ) → Written qs vs l → Written ps (a ∷ vs) m) → Says m (form says fs ps) → Says l (form says (fs ++ (a ∷ [])) qs)
    field_more so h vs w = rw (append_assoc fs (a ∷ []) vs) (h (a ∷ vs) (so vs w))

  says_passed : (says : (ℕ → ℕ) → A) (fs : List ℕ) (ps : List Piece) (b : ℕ) (l : List ℕ) → Says (b ∷ l) (form says fs ps) → All (Says l) (passed says fs ps b)
  unfolding passed
  says_passed says fs [] b l h = none
  says_passed says fs (byte c ∷ ps) b l h =
      all_when (Says l) (eqb c b) (form says fs ps) (λ e vs w. h vs (subst (λ (k : ℕ). Written (byte c ∷ ps) vs (k ∷ l)) (eqb-true c b e) (a_byte c w)))
  says_passed says fs (size ∷ ps) b l h =
      all_when (Says l) (is_digit "1" "8" b) _ (λ e. field_more says fs (value_of b) (size ∷ ps) ps l (b ∷ l) (λ vs w. a_size b e w) h)
  says_passed says fs (digit ∷ ps) b l h =
      all_when (Says l) (is_digit "0" "9" b) _ (λ e. field_more says fs (value_of b) (digit ∷ ps) ps l (b ∷ l) (λ vs w. a_digit b e w) h)
  says_passed says fs (view ∷ ps) b l h =
      all_both (Says l) _ _
      (all_when (Says l) (eqb (code "-") b) _
      (λ e.
      field_more says fs 0 (view ∷ ps) ps l (b ∷ l)
      (λ vs w. subst (λ (k : ℕ). Written (view ∷ ps) (0 ∷ vs) (k ∷ l)) (eqb-true (code "-") b e) (empty_view w)) h))
      (all_when (Says l) (rises (code "0") b) (form says fs (more b (with 0 (value_of b)) ∷ ps)) (λ e vs w. h vs (first_digit b e w)))
  says_passed says fs (more last v ∷ ps) b l h =
      all_both (Says l) _ _
      (all_when (Says l) (rises last b) (form says fs (more b (with v (value_of b)) ∷ ps)) (λ e vs w. h vs (next_digit b e w)))
      (says_passed says (fs ++ (v ∷ [])) ps b l (field_more says fs v (more last v ∷ ps) ps (b ∷ l) (b ∷ l) (λ vs w. no_more w) h))

  says_onward : (b : ℕ) (l : List ℕ) (xs : List (Form A)) → All (Says (b ∷ l)) xs → All (Says l) (flat_map (onward b) xs)
  unfolding flat_map
  says_onward b l [] none = none
  says_onward b l (x ∷ xs) (also p ps) = all_both (Says l) _ _ (says_passed x.says x.fields x.left b l p) (says_onward b l xs ps)

  says_followed : (l : List ℕ) (xs : List (Form A)) → All (Says l) xs → All (Says []) (followed xs l)
  unfolding followed
  says_followed [] xs h = h
  says_followed (b ∷ bs) xs h = says_followed bs (flat_map (onward b) xs) (says_onward b bs xs h)

  -- the first thing said, if any is
  says_ended : (says : (ℕ → ℕ) → A) (fs : List ℕ) (ps : List Piece) (rest : List A) (e : BadFrom) (a : A) → Says [] (form says fs ps)
      → (first_reading rest e ≡ Ok a → P a) → first_reading (ended says fs ps ++ rest) e ≡ Ok a → P a
  unfolding ended first_reading
  says_ended says fs [] rest e a p h is = let same : says (λ i. get_or fs i 0) ≡ a = cc in subst P same (rw (append-nil fs) at (p [] end))
  says_ended says fs (byte c ∷ ps) rest e a p h is = h is
  says_ended says fs (size ∷ ps) rest e a p h is = h is
  says_ended says fs (digit ∷ ps) rest e a p h is = h is
  says_ended says fs (view ∷ ps) rest e a p h is = h is
  says_ended says fs (more last v ∷ ps) rest e a p h is =
      says_ended says (fs ++ (v ∷ [])) ps rest e a (field_more says fs v (more last v ∷ ps) ps [] [] (λ vs w. no_more w) p) h is

  says_first : (xs : List (Form A)) (e : BadFrom) (a : A) → All (Says []) xs → first_reading (flat_map ends_as xs) e ≡ Ok a → P a
  unfolding flat_map first_reading
  says_first [] e a none is = let never : ⊥ = cc in absurd never
  says_first (x ∷ xs) e a (also p ps) is = says_ended x.says x.fields x.left (flat_map ends_as xs) e a p (says_first xs e a ps) is

  -- P holds of what a line says, if it holds of what each form says
  said_by_form : (xs : List (Form A)) (l : List ℕ) (a : A) → All (Says l) xs → read xs l ≡ Ok a → P a
  unfolding read readings
  said_by_form xs l a h is = says_first (followed xs l) _ a (says_followed l xs h) is

-- the form stands in the list
pub data In {A : Type 0} (x : Form A) : List (Form A) → Type 0 where
  here : {xs : List (Form A)} → In x (x ∷ xs)
  later : {y : Form A} {xs : List (Form A)} → In x xs → In x (y ∷ xs)

-- the line is written in one of the forms, and a is what that form says of its fields
pub record ReadOff {A : Type 0} (xs : List (Form A)) (l : List ℕ) (a : A) : Type 0 where
  pub of : Form A
  pub listed : In of xs
  pub values : List ℕ
  pub written : Written of.left values l
  pub said : a ≡ of.says (λ i. get_or (of.fields ++ values) i 0)

each_reads_off : {A : Type 0} (all xs : List (Form A)) (l : List ℕ) → ((x : Form A) → In x xs → In x all) → All (Says (ReadOff all l) l) xs
each_reads_off all [] l h = none
each_reads_off all (x ∷ xs) l h =
    also (λ vs w. record { of = x; listed = h x here; values = vs; written = w; said = refl }) (each_reads_off all xs l (λ y i. h y (later i)))

-- what a good line says is read off a form that it is written in
pub read_off : {A : Type 0} (xs : List (Form A)) (l : List ℕ) (a : A) → read xs l ≡ Ok a → ReadOff xs l a
read_off xs l a is = said_by_form (ReadOff xs l) xs l a (each_reads_off xs xs l (λ x i. i)) is

-- and a line that is written in one of the forms is allowed: the byte leads to a form in which the rest is written
leads : {A : Type 0} (x y : Form A) (us ws : List (Form A)) (b : ℕ) (l : List ℕ) → onward b x ≡ us ++ (y ∷ ws) → some (readings (y ∷ []) l) ≡ true
    → some (readings (x ∷ []) (b ∷ l)) ≡ true
unfolding readings followed flat_map
leads {A} x y us ws b l is e =
    ap (λ (xs : List (Form A)). some (readings xs l)) (append-nil (onward b x) ∙ is) ∙ in_second us (y ∷ ws) l (in_first_lem (y ∷ []) ws l e)

written_read : {A : Type 0} (says : (ℕ → ℕ) → A) (fs : List ℕ) {ps : List Piece} {vs l : List ℕ} → Written ps vs l → some (readings (form says fs ps ∷ []) l) ≡ true
unfolding readings followed flat_map passed ended some pick
written_read says fs end = refl
written_read says fs (a_byte {ps} {vs} {l} c w) = ap some (byte-read says fs c ps l) ∙ written_read says fs w
written_read says fs (a_size {ps} {vs} {l} b e w) = leads (form says fs (size ∷ ps)) _ [] [] b l (rw e) (written_read says (fs ++ (value_of b ∷ [])) w)
written_read says fs (a_digit {ps} {vs} {l} b e w) = leads (form says fs (digit ∷ ps)) _ [] [] b l (rw e) (written_read says (fs ++ (value_of b ∷ [])) w)
written_read says fs (empty_view {ps} {vs} {l} w) = written_read says (fs ++ (0 ∷ [])) w
written_read says fs (first_digit {ps} {vs} {l} b e w) =
    leads (form says fs (view ∷ ps)) _ (when (eqb (code "-") b) (form says (fs ++ (0 ∷ [])) ps)) [] b l (rw e) (written_read says fs w)
written_read says fs (next_digit {ps} {vs} {l} {last} {v} b e w) =
    leads (form says fs (more last v ∷ ps)) _ [] (passed says (fs ++ (v ∷ [])) ps b) b l (rw e) (written_read says fs w)
written_read says fs (no_more {ps} {vs} {l} {last} {v} w) = view_ends says fs last v ps l (written_read says (fs ++ (v ∷ [])) w)

pub written_allowed : {A : Type 0} {x : Form A} {xs : List (Form A)} (vs l : List ℕ) → In x xs → Written x.left vs l → allowed xs l ≡ true
unfolding allowed
written_allowed {A} {x} vs l (here {xs}) w = in_first_lem (x ∷ []) xs l (written_read x.says x.fields w)
written_allowed vs l (later {y} {xs} i) w = in_second (y ∷ []) xs l (written_allowed vs l i w)

-- ---- a line is good exactly if it is allowed, and any other is bad, at its column
some_said : {A : Type 0} (rs : List A) (e : BadFrom) → is_ok (first_reading rs e) ≡ some rs
unfolding some first_reading
some_said [] e = refl
some_said (r ∷ rs) e = refl

none_said : {A : Type 0} (rs : List A) (e d : BadFrom) → first_reading rs e ≡ Err d → e ≡ d
unfolding first_reading
none_said [] e d is = cc
none_said (r ∷ rs) e d is = let never : ⊥ = cc in absurd never

module _ {A : Type 0} (xs : List (Form A)) (l : List ℕ) where
  good_if_allowed_of : is_ok (read xs l) ≡ allowed xs l
  unfolding read allowed
  good_if_allowed_of = some_said (readings xs l) (from_column (column xs l))

  bad_column_of : (k : ℕ) → read xs l ≡ bad k → k ≡ column xs l
  unfolding read
  bad_column_of k is = ap (λ (d : BadFrom). d.0) (sym (none_said (readings xs l) (from_column (column xs l)) (from_column k) is))

-- ---- the two lists of forms
pub good_if_allowed_first : (l : List ℕ) → is_ok (opened l) ≡ allowed first_forms l
unfolding opened
good_if_allowed_first l = good_if_allowed_of first_forms l

pub good_if_allowed : (l : List ℕ) → is_ok (parsed l) ≡ allowed later_forms l
unfolding parsed
good_if_allowed l = good_if_allowed_of later_forms l

pub bad_first_column : (l : List ℕ) (k : ℕ) → opened l ≡ bad k → k ≡ column first_forms l
unfolding opened
bad_first_column l k is = bad_column_of first_forms l k is

pub bad_column : (l : List ℕ) (k : ℕ) → parsed l ≡ bad k → k ≡ column later_forms l
unfolding parsed
bad_column l k is = bad_column_of later_forms l k is
