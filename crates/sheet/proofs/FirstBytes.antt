-- What the lines of a sheet say, by their first byte: what is left of the forms once it is taken off, and how the line ends.
use Prim.Native.Nat.{ℕ, suc, ◌<◌}
use Prim.Native.Char.{code}
use mathlib.Core.Path.{◌≡◌, refl, sym, ◌∙◌}
use mathlib.Core.Bool.{true, false}
use mathlib.Core.Logic.{◌⊎◌}
use mathlib.Core.List.{List, [], ◌∷◌, ◌++◌, map, flat_map}
use native.Mathlib.Omega.{arith}
use borrow.Author.Tests.{ne_eqb, ltb-true, ltb-false}
use lib.Dec.{eqb, leb, ltb}
use lib.ListN.{length, get_or, drop, drop_of_length-le}
use lib.Seq.{drop-cons}
use Rattle.view.specs.Logic.{pick}
use Rattle.view.proofs.Laws.{by_test, by_number, and_left}
use Rattle.plan.specs.declared.Action.{Action}
use Rattle.plan.specs.declared.Action.TheVariants.{Report, Receive, Respond, Crash}
use Rattle.plan.specs.Cut.{whole, cut_after}
use Rattle.print.specs.Text.{bytes}
use Rattle.std.specs.Prelude.{Result, Ok, Err}
use Rattle.sheet.specs.declared.parse.BadFrom.{BadFrom}
use Rattle.sheet.specs.declared.parse.Line.{Line}
use Rattle.sheet.specs.declared.parse.Line.TheVariants.{Step, Settle}
use Rattle.sheet.specs.Grammar.{Piece, byte, size, digit, view, Form, form, piece, value_of, from_column, passed, ended, onward, some}
use Rattle.sheet.specs.Parse.{process, first_forms, later_forms, opened, parsed}
use Rattle.sheet.specs.Cursor.{◌>>=◌, byte_at, text_at, digit_at, process_named_at, view_at, end_at, cut_at}
use Rattle.sheet.proofs.Forms.{bad, read_from_lem, goes_on, is_stuck, breaks_off, ends, same_next}
use Rattle.sheet.proofs.Parsing.{then_same, then_then, gives_up, Byte, byte_is, byte_differs, byte_column, ahead, read_at, size_read, digit_read, text_read, process_read, end_read, Shut, AllShut, none, also, view_read}

-- ---- first lines
pub first_read : (l : List ℕ) → opened l ≡ (text_at (bytes "u ") l 0 >>= λ s. byte_at 49 56 l s.1 >>= λ b. end_at l b.1 >>= λ end. Ok (value_of b.0))
unfolding bytes opened piece pick
first_read l =
    read_from_lem first_forms l
    ∙ text_read (form (λ f. f 0) [] []) [] l (bytes "u ") (size ∷ []) [] 0
    ∙ then_same (text_at (bytes "u ") l 0) _ _
    (λ s e. size_read (form (λ f. f 0) [] []) [] l [] [] s.1 ∙ then_same (byte_at 49 56 l s.1) _ _ (λ b e. end_read (λ f. f 0) (value_of b.0 ∷ []) l b.1))

-- ---- other lines
-- the empty line
nothing_there : parsed [] ≡ bad 1
unfolding parsed bytes piece pick flat_map ended
nothing_there = read_from_lem later_forms [] ∙ breaks_off later_forms 0 refl

pub nothing_said : (l : List ℕ) → length l ≡ 0 → parsed l ≡ bad 1
nothing_said [] e = nothing_there
nothing_said (b ∷ bs) e = absurd (omega arith)

-- no form begins so
other_kind : (b : ℕ) (bs : List ℕ) → (b ≡ 114 → ⊥) → (b ≡ 116 → ⊥) → (b ≡ 97 → ⊥) → (b ≡ 115 → ⊥) → (b ≡ 113 → ⊥) → parsed (b ∷ bs) ≡ bad 1
unfolding parsed bytes piece pick flat_map passed
other_kind b bs r t a s q =
    read_from_lem later_forms (b ∷ bs)
    ∙ is_stuck later_forms 0 b bs
    (rw (ne_eqb 114 b (λ e. r (sym e)), ne_eqb 116 b (λ e. t (sym e)), ne_eqb 97 b (λ e. a (sym e)), ne_eqb 115 b (λ e. s (sym e)), ne_eqb 113 b (λ e. q (sym e))))

no_kind : (l : List ℕ) → (0 < length l → (get_or l 0 0 < 0) ⊎ (255 < get_or l 0 0)) → parsed l ≡ bad 1
no_kind [] h = nothing_there
no_kind (b ∷ bs) h =
    let other = h (omega arith) in
    other_kind b bs (λ e. grind arith) (λ e. grind arith) (λ e. grind arith) (λ e. grind arith) (λ e. grind arith)

unread : (l : List ℕ) (e : BadFrom) → byte_at 0 255 l 0 ≡ Err e → parsed l ≡ Err e
unread l e is = rw (byte_column 0 255 l 0 e is) (no_kind l (byte_differs 0 255 l 0 e is))

other_read : (l : List ℕ) (b k : ℕ) → byte_at 0 255 l 0 ≡ Ok (b, k) → (b ≡ 114 → ⊥) → (b ≡ 116 → ⊥) → (b ≡ 97 → ⊥) → (b ≡ 115 → ⊥) → (b ≡ 113 → ⊥) → parsed l ≡ bad 1
other_read [] b k e r t a s q = absurd (omega (arith, (byte_is 0 255 [] 0 b k e).inside))
other_read (d ∷ bs) b k e r t a s q = rw (byte_is 0 255 (d ∷ bs) 0 b k e).is (other_kind b bs r t a s q)

-- the first byte is c, and leads to these forms
kind_lem : (l : List ℕ) (c k : ℕ) (ys : List (Form Line)) → Byte 0 255 l 0 c k → flat_map (onward c) later_forms ≡ ys → some ys ≡ true → parsed l ≡ read_at ys l k
unfolding parsed
kind_lem [] c k ys h is so = absurd (omega (arith, h.inside))
kind_lem (b ∷ bs) c k ys h is so =
    rw h.next
    (read_from_lem later_forms (b ∷ bs) ∙ goes_on later_forms 0 b bs ys (rw h.is is) so)

kind : (l : List ℕ) (c k : ℕ) (ys : List (Form Line)) → byte_at 0 255 l 0 ≡ Ok (c, k) → flat_map (onward c) later_forms ≡ ys → some ys ≡ true → parsed l ≡ read_at ys l k
kind l c k ys e is so = kind_lem l c k ys (byte_is 0 255 l 0 c k e) is so

-- what a line says whose action is read
abbrev pub step_at : Action → List ℕ → ℕ → Result Line BadFrom
step_at o l at = cut_at l at >>= λ cut. Ok (Step (record { action = o; cut = cut }))

-- ---- what follows the two fields of a step that may be cut: nothing more, or ` cut K`
abbrev wholly : (ℕ → ℕ → Action) → Form Line
wholly act = form (λ f. Step (whole (act (f 0) (f 1)))) [] []

abbrev partly : (ℕ → ℕ → Action) → Form Line
partly act = form (λ f. Step (cut_after (act (f 0) (f 1)) (f 2))) [] (map piece (bytes " cut K"))

module _ (act : ℕ → ℕ → Action) (a b : ℕ) (l : List ℕ) where
  abbrev rest : List (Form Line)
  rest = map (ahead [] (a ∷ b ∷ [])) (wholly act ∷ partly act ∷ [])

  abbrev cutting : (ℕ → ℕ) → Line
  cutting f = Step (cut_after (act (f 0) (f 1)) (f 2))

  abbrev cuttings : List (Form Line)
  cuttings = map (ahead (map byte (bytes " cut ") ++ (digit ∷ [])) (a ∷ b ∷ [])) (form cutting [] [] ∷ [])

  ends_here : (at : ℕ) → ltb at (length l) ≡ false → read_at rest l at ≡ Ok (Step (whole (act a b)))
  unfolding flat_map ended bytes piece pick
  ends_here at e = rw (drop_of_length-le l (ltb-false at (length l) e)) (ends rest at _ [] refl)

  more_here : (at : ℕ) → ltb at (length l) ≡ true → read_at rest l at ≡ read_at cuttings l at
  unfolding flat_map passed bytes piece pick
  more_here at e = rw (drop-cons l at 0 (ltb-true at (length l) e)) (same_next rest cuttings at (get_or l at 0) (drop (suc at) l) refl)

  cut_read : (at : ℕ) → read_at cuttings l at ≡ (text_at (bytes " cut ") l at >>= λ s. digit_at l s.1 >>= λ d. end_at l d.1 >>= λ end. Ok (Step (cut_after (act a b) d.0)))
  cut_read at =
      text_read (form cutting [] []) [] l (bytes " cut ") (digit ∷ []) (a ∷ b ∷ []) at
      ∙ then_same (text_at (bytes " cut ") l at) _ _
      (λ s e. digit_read (form cutting [] []) [] l [] (a ∷ b ∷ []) s.1 ∙ then_same (digit_at l s.1) _ _ (λ d e. end_read cutting (a ∷ b ∷ d.0 ∷ []) l d.1))

  -- the rest of a line, from a place on, is read as the code reads it
  rest_read : (at : ℕ) → read_at rest l at ≡ step_at (act a b) l at
  unfolding cut_at pick
  rest_read at =
      by_test (ltb at (length l))
      (λ e. rw e
      (more_here at e
      ∙ cut_read at
      ∙ then_same (text_at (bytes " cut ") l at) _ _ (λ s e. then_same (digit_at l s.1) _ _ (λ d e. sym (then_then (end_at l d.1) _ _)) ∙ sym (then_then (digit_at l s.1) _ _))
      ∙ sym (then_then (text_at (bytes " cut ") l at) _ _)))
      (λ e. rw e (ends_here at e))

-- ---- a step whose fields are two digits
abbrev two_fields : List Piece
two_fields = byte 32 ∷ digit ∷ byte 32 ∷ digit ∷ []

module _ (act : ℕ → ℕ → Action) (l : List ℕ) (c k : ℕ) (e : byte_at 0 255 l 0 ≡ Ok (c, k))
    (left : flat_map (onward c) later_forms ≡ map (ahead two_fields []) (wholly act ∷ partly act ∷ [])) where
  digits_read : parsed l ≡ (process_named_at l k >>= λ p. process_named_at l p.1 >>= λ q. step_at (act p.0.0 q.0.0) l q.1)
  unfolding some
  digits_read =
      kind l c k _ e left refl
      ∙ process_read (wholly act) (partly act ∷ []) l (byte 32 ∷ digit ∷ []) [] k
      ∙ then_same (process_named_at l k) _ _
      (λ p e. process_read (wholly act) (partly act ∷ []) l [] (p.0.0 ∷ []) p.1 ∙ then_same (process_named_at l p.1) _ _ (λ q e. rest_read act p.0.0 q.0.0 l q.1))

abbrev receiving : ℕ → ℕ → Action
receiving q p = Receive (process q) (process p)

abbrev responding : ℕ → ℕ → Action
responding p q = Respond (process p) (process q)

module _ (l : List ℕ) (b k : ℕ) (e : byte_at 0 255 l 0 ≡ Ok (b, k)) where
  receive_read : b ≡ 116 → parsed l ≡ (process_named_at l k >>= λ q. process_named_at l q.1 >>= λ p. step_at (Receive q.0 p.0) l p.1)
  unfolding bytes piece pick flat_map passed
  receive_read is = digits_read receiving l 116 k (rw is at e) refl

  respond_read : b ≡ 97 → parsed l ≡ (process_named_at l k >>= λ p. process_named_at l p.1 >>= λ q. step_at (Respond p.0 q.0) l q.1)
  unfolding bytes piece pick flat_map passed
  respond_read is = digits_read responding l 97 k (rw is at e) refl

-- ---- a report
abbrev reporting : ℕ → ℕ → Action
reporting p v = Report (process p) v

-- what may follow a view is no digit
shut_wholly : Shut (wholly reporting)
unfolding passed
shut_wholly fs last b low r = refl

shut_partly : Shut (partly reporting)
unfolding bytes piece pick passed
shut_partly fs last b low r = let up : last < b = ltb-true last b (and_left (ltb last b) (leb b 56) r) in rw (ne_eqb 32 b (λ same. omega arith))

shut : AllShut (wholly reporting ∷ partly reporting ∷ [])
shut = also shut_wholly (also shut_partly none)

module _ (l : List ℕ) (b k : ℕ) (e : byte_at 0 255 l 0 ≡ Ok (b, k)) where
  report_read : b ≡ 114 → parsed l ≡ (process_named_at l k >>= λ p. view_at l p.1 >>= λ v. step_at (Report p.0 v.0) l v.1)
  unfolding bytes piece pick flat_map passed some
  report_read is =
      kind l 114 k _ (rw is at e) refl refl
      ∙ process_read (wholly reporting) (partly reporting ∷ []) l (byte 32 ∷ view ∷ []) [] k
      ∙ then_same (process_named_at l k) _ _
      (λ p e. view_read (wholly reporting) (partly reporting ∷ []) shut (p.0.0 ∷ []) l p.1 ∙ then_same (view_at l p.1) _ _ (λ v e. rest_read reporting p.0.0 v.0 l v.1))

  -- ---- a stop
  crash_read : b ≡ 115 → parsed l ≡ (process_named_at l k >>= λ p. end_at l p.1 >>= λ end. Ok (Step (whole (Crash p.0))))
  unfolding bytes piece pick flat_map passed some
  crash_read is =
      kind l 115 k _ (rw is at e) refl refl
      ∙ process_read (form (λ f. Step (whole (Crash (process (f 0))))) [] []) [] l [] [] k
      ∙ then_same (process_named_at l k) _ _ (λ p e. end_read (λ f. Step (whole (Crash (process (f 0))))) (p.0.0 ∷ []) l p.1)

  -- ---- a settling run
  settle_read : b ≡ 113 → parsed l ≡ (end_at l k >>= λ end. Ok Settle)
  unfolding bytes piece pick flat_map passed some
  settle_read is = kind l 113 k _ (rw is at e) refl refl ∙ end_read (λ f. Settle) [] l k

-- ---- a line by its first byte, which is read
unfoldable pub form_at : ℕ → List ℕ → ℕ → Result Line BadFrom
form_at b l at =
    pick (eqb b (code "r")) (process_named_at l at >>= λ p. view_at l p.1 >>= λ v. step_at (Report p.0 v.0) l v.1)
    (pick (eqb b (code "t")) (process_named_at l at >>= λ q. process_named_at l q.1 >>= λ p. step_at (Receive q.0 p.0) l p.1)
    (pick (eqb b (code "a")) (process_named_at l at >>= λ p. process_named_at l p.1 >>= λ q. step_at (Respond p.0 q.0) l q.1)
    (pick (eqb b (code "s")) (process_named_at l at >>= λ p. end_at l p.1 >>= λ end. Ok (Step (whole (Crash p.0))))
    (pick (eqb b (code "q")) (end_at l at >>= λ end. Ok Settle) (Err (from_column 1))))))

module _ (l : List ℕ) where
  form_read : (b k : ℕ) → byte_at 0 255 l 0 ≡ Ok (b, k) → parsed l ≡ form_at b l k
  unfolding form_at pick
  form_read b k e =
      by_number b 114 (λ r. rw r (report_read l b k e r))
      (λ r. rw (ne_eqb b 114 r)
      (by_number b 116 (λ t. rw t (receive_read l b k e t))
      (λ t. rw (ne_eqb b 116 t)
      (by_number b 97 (λ a. rw a (respond_read l b k e a))
      (λ a. rw (ne_eqb b 97 a)
      (by_number b 115 (λ s. rw s (crash_read l b k e s))
      (λ s. rw (ne_eqb b 115 s)
      (by_number b 113 (λ q. rw q (settle_read l b k e q)) (λ q. rw (ne_eqb b 113 q) (other_read l b k e r t a s q))))))))))

  pub parsed_read : parsed l ≡ (byte_at 0 255 l 0 >>= λ b. form_at b.0 l b.1)
  parsed_read = by (byte_at 0 255 l 0) refl
    where
      by : (r : Result (ℕ × ℕ) BadFrom) → byte_at 0 255 l 0 ≡ r → parsed l ≡ (r >>= λ b. form_at b.0 l b.1)
      by (Ok (b, k)) e = form_read b k e
      by (Err bad) e = unread l bad e

-- how lines are read, for the functions of parse.rt
pub ruleset kinds = (gives_up, byte_is, first_read, parsed_read, ne_eqb)
