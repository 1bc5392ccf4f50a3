-- A name that comes in chunks.
use Prim.Native.Nat.{ℕ, suc, ◌+◌, ◌≤◌, ◌<◌}
use mathlib.Core.Path.{◌≡◌, refl, sym, ◌∙◌, ap}
use mathlib.Core.Bool.{Bool, true, false, ◌||◌}
use mathlib.Core.List.{List, [], ◌∷◌, ◌++◌, append-nil}
use native.Mathlib.Omega.{arith}
use borrow.Author.Tests.{lt-ltb, le-ltb, ltb-true, ltb-false}
use lib.Dec.{ltb}
use lib.ListN.{length, take, drop, length-take, drop_of_length-le}
use lib.Seq.{length-take-le, drop-drop}
use Rattle.std.specs.Prelude.{⊤, Option, Some, None, is_some}
use Rattle.std.specs.Bool.{then_some}
use Rattle.std.specs.Option.{unwrap_or}
use Rattle.std.specs.Io.KnownBytes.{IsAtEnd, Keeps, prepend_known}
use Rattle.std.proofs.lemmas.List.{take-append-drop}
use Rattle.std.proofs.Math.Seq.{take-append_seam}
use Rattle.view.specs.Logic.{pick}
use Rattle.view.proofs.Laws.{by_test}
use Rattle.sheet.specs.Lines.{is_feed, line_length, next_place}
use Rattle.print.specs.Page.{Page, page, typed, typed_byte}
use Rattle.print.proofs.Laws.{typed-append, same_room, fits_in, printed_whole}
use Rattle.class.specs.Names.{first_line, after_line, has_feed, after_feed, kept_name, TakesName}
use Rattle.class.proofs.Gathering.{across}

-- ---- the lines after the first, of two chunks
after_across : (a b : List ℕ) → after_line (a ++ b) ≡ pick (has_feed a) (after_line a ++ b) (after_line b)
unfolding after_line has_feed line_length pick
after_across [] b = refl
after_across (x ∷ a) b = by (is_feed x) (after_across a b)
  where
    by : (t : Bool) → after_line (a ++ b) ≡ pick (has_feed a) (after_line a ++ b) (after_line b)
        → drop (pick t 0 (suc (line_length (a ++ b)))) (a ++ b)
        ≡ pick (t || has_feed a) (drop (pick t 0 (suc (line_length a))) a ++ b) (after_line b)
    by true e = refl
    by false e = e

-- ---- a text for which there is no room is cut
full : (b : List ℕ) (n : ℕ) (t : List ℕ) → length b ≤ n → typed (page b n) t ≡ page b n
unfolding typed typed_byte pick
full b n [] h = refl
full b n (x ∷ t) h = rw (le-ltb n (length b) h) (full b n t h)

cut : (b t : List ℕ) → typed (page b 0) t ≡ typed (page b 0) (take (length b) t)
cut b t = by_test (ltb (length b) (length t)) (λ e. longer (ltb-true (length b) (length t) e)) (λ e. rw (whole (ltb-false (length b) (length t) e)))
  where
    whole : length t ≤ length b → take (length b) t ≡ t
    whole h = sym (append-nil _) ∙ ap (λ (l : List ℕ). take (length b) t ++ l) (sym (drop_of_length-le t h)) ∙ take-append-drop (length b) t

    longer : length b < length t → typed (page b 0) t ≡ typed (page b 0) (take (length b) t)
    longer h =
        let first = take (length b) t in
        let count : length first ≡ length b = length-take-le (length b) t (omega arith) in
        let at = fits_in b 0 first (omega (arith, count)) in
        let all : typed (page b 0) t ≡ typed (typed (page b 0) first) (drop (length b) t) =
        ap (typed (page b 0)) (sym (take-append-drop (length b) t)) ∙ typed-append (page b 0) first (drop (length b) t) in
        all
        ∙ ap (λ (p : Page). typed p (drop (length b) t)) at
        ∙ full _ _ (drop (length b) t) (omega (arith, count, same_room _ b _ 0 first (sym at)))
        ∙ sym at

-- what stands first on the page is the line, cut
pub name_cut : (before after line : List ℕ) (place : ℕ) → length before ≡ 256 → page after place ≡ typed (page before 0) line
    → take place after ≡ kept_name line
name_cut before after line place long e =
    let first = printed_whole before after (take 256 line) 256 place long (omega (arith, length-take 256 line)) (rw (← long) (e ∙ cut before line)) in
    rw (first.printed, first.counted) (take-append_seam (take 256 line) _)

-- ---- in turn
-- where it is known which bytes are left: the page with the rest of their first line on it is the one with the whole line on it, and the
-- bytes after that line are the same
pub record Goes (first rest before after : List ℕ) (place : ℕ) : Type 0 where
  pub name : typed (page after place) (first_line rest) ≡ typed (page before 0) (first_line first)
  pub others : after_line rest ≡ after_line first

abbrev pub Taking : Option (List ℕ) → Option (List ℕ) → List ℕ → List ℕ → ℕ → Type 0
Taking None new before after place = ⊤
Taking (Some first) None before after place = ⊥
Taking (Some first) (Some rest) before after place = Goes first rest before after place

pub starts : (a : Option (List ℕ)) (before : List ℕ) → Taking a a before before 0
starts None before = tt
starts (Some s) before = record { name = refl; others = refl }

-- at the end of the input
pub ends : (a b c : Option (List ℕ)) (before after : List ℕ) (place : ℕ) → length before ≡ 256
    → Taking a b before after place → Keeps b c → IsAtEnd c → TakesName a c (take place after)
unfolding first_line after_line line_length typed
ends None b c before after place h t k e = tt
ends (Some s) None c before after place h t k e = absurd t
ends (Some s) (Some r) None before after place h t k e = absurd k
ends (Some s) (Some r) (Some u) before after place h t k e =
    let none : r ≡ [] = sym k ∙ e in
    (name_cut before after (first_line s) place h (rw none at t.name), e ∙ (rw none at t.others))

-- the chunk has no line feed
pub goes_on : (a b : Option (List ℕ)) (c d : List ℕ) (rest : Option (List ℕ)) (before middle after : List ℕ) (from place : ℕ)
    → Taking a b before middle from → Keeps b (prepend_known c rest) → has_feed c ≡ false → page after place ≡ typed (page middle from) (first_line c)
    → d ≡ [] → Taking a (prepend_known d rest) before after place
unfolding pick
goes_on None b c d rest before middle after from place t k f e g = tt
goes_on (Some s) None c d rest before middle after from place t k f e g = absurd t
goes_on (Some s) (Some r) c d None before middle after from place t k f e g = absurd k
goes_on (Some s) (Some r) c d (Some u) before middle after from place t k f e g =
    let line : first_line r ≡ first_line c ++ first_line u = ap first_line (sym k) ∙ (rw f at (across c u)) in
    let others : after_line r ≡ after_line u = ap after_line (sym k) ∙ (rw f at (after_across c u)) in
    rw g
    (record {
      name =
          ap (λ (p : Page). typed p (first_line u)) e
          ∙ sym (typed-append (page middle from) (first_line c) (first_line u))
          ∙ ap (typed (page middle from)) (sym line)
          ∙ t.name;
      others = sym others ∙ t.others;
    })

-- it has
pub stops : (a b : Option (List ℕ)) (c d : List ℕ) (rest : Option (List ℕ)) (before middle after : List ℕ) (from place : ℕ) → length before ≡ 256
    → Taking a b before middle from → Keeps b (prepend_known c rest) → has_feed c ≡ true → page after place ≡ typed (page middle from) (first_line c)
    → d ≡ after_line c → TakesName a (prepend_known d rest) (take place after)
unfolding pick
stops None b c d rest before middle after from place h t k f e g = tt
stops (Some s) None c d rest before middle after from place h t k f e g = absurd t
stops (Some s) (Some r) c d None before middle after from place h t k f e g = absurd k
stops (Some s) (Some r) c d (Some u) before middle after from place h t k f e g =
    let line : first_line r ≡ first_line c = ap first_line (sym k) ∙ (rw f at (across c u)) ∙ append-nil (first_line c) in
    let others : after_line r ≡ after_line c ++ u = ap after_line (sym k) ∙ (rw f at (after_across c u)) in
    (name_cut before after (first_line s) place h (e ∙ ap (typed (page middle from)) (sym line) ∙ t.name), rw g (sym others ∙ t.others))

-- ---- what is left of the chunk
met_here : (next : Option ℕ) (feed : Bool) (x : ℕ) → next ≡ then_some feed x → is_some next ≡ true → (feed ≡ true) × (next ≡ Some x)
met_here next true x e s = (refl, e)
met_here next false x e s = let no : false ≡ true = rw e at s in absurd cc

not_here : (next : Option ℕ) (feed : Bool) (x : ℕ) → next ≡ then_some feed x → is_some next ≡ false → (feed ≡ false) × (next ≡ None)
not_here next true x e s = let no : true ≡ false = rw e at s in absurd cc
not_here next false x e s = (refl, e)

-- by whether there is a line feed: it is met, and the bytes after it are left; it is not, and none are
pub record Told (s : List ℕ) (at place : ℕ) (met : Bool) (rest : List ℕ) : Type 0 where
  pub feed : has_feed (drop at s) ≡ met
  pub left : drop place s ≡ rest

pub told : (next : Option ℕ) (bytes : List ℕ) (have at place : ℕ) → at < have → have ≤ length bytes → next ≡ after_feed (take have bytes) at
    → place ≡ unwrap_or next have → is_some next ≡ true → Told (take have bytes) at place true (after_line (drop at (take have bytes)))
unfolding after_feed next_place pick after_line
told next bytes have at place h w e u s =
    let within : at < length (take have bytes) = omega (arith, length-take have bytes) in
    let l : List ℕ = drop at (take have bytes) in
    let after : at + line_length l + 1 ≡ at + suc (line_length l) = omega arith in
    let found = met_here next _ _ e s in
    record {
      feed = found.0;
      left =
          rw (u, found.1, lt-ltb at (length (take have bytes)) within, after)
          (sym (drop-drop (suc (line_length l)) at (take have bytes)));
    }

pub untold : (next : Option ℕ) (bytes : List ℕ) (have at place : ℕ) → next ≡ after_feed (take have bytes) at
    → place ≡ unwrap_or next have → is_some next ≡ false → Told (take have bytes) at place false []
unfolding after_feed
untold next bytes have at place e u s =
    let none = not_here next _ _ e s in
    record {
      feed = none.0;
      left = rw (u, none.1) (drop_of_length-le (take have bytes) (omega (arith, length-take have bytes)));
    }
