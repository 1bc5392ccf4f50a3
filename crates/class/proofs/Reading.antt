-- What is left to read: after a read, after a name, and how many names that is.
use Prim.Native.Nat.{ℕ, zero, suc, ◌+◌, ◌-◌, ◌≤◌, ◌<◌}
use mathlib.Core.Path.{◌≡◌, refl, sym, ◌∙◌, ap}
use mathlib.Core.Bool.{Bool, true, false, not}
use mathlib.Core.List.{List, [], ◌∷◌, ◌++◌}
use native.Mathlib.Omega.{arith}
use native.Mathlib.Numerals.{sub-one}
use borrow.Author.Tests.{lt-ltb}
use lib.ListN.{length, take, drop, length-take, length-drop, length-append, drop_of_length-le}
use lib.Seq.{take-nil}
use Rattle.std.specs.Prelude.{Option, None, Some, IfSome, nat_eq}
use Rattle.std.specs.Option.{option_map}
use Rattle.std.specs.Io.KnownBytes.{Consumes, IsAtEnd, Keeps, prepend_known}
use Rattle.std.proofs.lemmas.Bool.{eqb-true}
use Rattle.view.specs.Logic.{pick}
use Rattle.sheet.specs.Lines.{lines_of, line_length, next_place, line_between, line_at, span}
use Rattle.sheet.proofs.Laws.{line_found}
use Rattle.class.specs.Names.{first_line, after_line, kept_name, first_names, names_in, GivesName, TakesName}

-- ---- the first line, and the lines after it
pub line_first : (s : List ℕ) → 0 < length s → lines_of s ≡ first_line s ∷ lines_of (after_line s)
unfolding line_at line_between next_place pick first_line after_line
line_first s h =
    let next : pick true (0 + line_length (drop 0 s) + 1) 0 ≡ suc (line_length s) = omega arith in
    let found : line_at s 0 ≡ Some (span 0 (line_length s) (suc (line_length s))) =
    rw (lt-ltb 0 (length s) h, next, lt-ltb 0 (suc (line_length s)) (omega arith), sub-one) refl in
    let all : line_length s - 0 ≡ line_length s = omega arith in
    rw all at (line_found s 0 _ found).lines

-- ---- a chunk
pub past_end : (at have : ℕ) (bytes : List ℕ) → have ≤ at → drop at (take have bytes) ≡ []
past_end at have bytes h = drop_of_length-le (take have bytes) (omega (arith, length-take have bytes))

-- with the chunk used up and the input at its end, nothing is left
pub nothing_left : (at have : ℕ) (bytes : List ℕ) (rest : Option (List ℕ)) (ended : Bool) → have ≤ at → ended ≡ true
    → IsAtEnd (prepend_known (drop at (take have bytes)) (pick ended (Some []) rest))
unfolding pick
nothing_left at have bytes rest ended h e = rw (e, past_end at have bytes h) refl

-- a read puts into the chunk what the reader no longer has
read_in : (a b : Option (List ℕ)) (n : ℕ) (bytes : List ℕ) → Consumes a b (take n bytes) → (n ≡ 0 → IsAtEnd b)
    → Keeps (prepend_known [] a) (prepend_known (take n bytes) (pick (nat_eq n 0) (Some []) b))
unfolding pick
read_in None b n bytes c e = tt
read_in (Some x) None n bytes c e = absurd c
read_in (Some x) (Some y) n bytes c e = by (nat_eq n 0) refl
  where
    by : (t : Bool) → nat_eq n 0 ≡ t → Keeps (prepend_known [] (Some x)) (prepend_known (take n bytes) (pick t (Some []) (Some y)))
    by true t = sym (c ∙ ap (λ (l : List ℕ). take n bytes ++ l) (e (eqb-true n 0 t)))
    by false t = sym c

pub chunk_read : (a b : Option (List ℕ)) (at have n : ℕ) (old new : List ℕ) (ended : Bool) → have ≤ at → ended ≡ false
    → Consumes a b (take n new) → (n ≡ 0 → IsAtEnd b)
    → Keeps (prepend_known (drop at (take have old)) (pick ended (Some []) a)) (prepend_known (drop 0 (take n new)) (pick (nat_eq n 0) (Some []) b))
unfolding pick
chunk_read a b at have n old new ended h f c e = rw (f, past_end at have old h) (read_in a b n new c e)

pub none_read : (n : ℕ) (bytes : List ℕ) (rest : Option (List ℕ)) → not (nat_eq n 0) ≡ false
    → IsAtEnd (prepend_known (drop 0 (take n bytes)) (pick (nat_eq n 0) (Some []) rest))
unfolding pick
none_read n bytes rest = by (nat_eq n 0) refl
  where
    by : (t : Bool) → nat_eq n 0 ≡ t → not t ≡ false → IsAtEnd (prepend_known (drop 0 (take n bytes)) (pick t (Some []) rest))
    by true t e = rw (eqb-true n 0 t) refl
    by false t e = absurd cc

pub some_left : (at have : ℕ) (bytes : List ℕ) (rest : Option (List ℕ)) → at < have → have ≤ length bytes
    → IfSome (prepend_known (drop at (take have bytes)) rest) (λ s. 0 < length s)
some_left at have bytes None h w = tt
some_left at have bytes (Some s) h w = omega (arith, length-append (drop at (take have bytes)) s, length-drop at (take have bytes), length-take have bytes)

-- ---- the names
pub all_left : (bytes : List ℕ) (rest : Option (List ℕ)) → option_map (first_names 64) (prepend_known (drop 0 (take 0 bytes)) (pick false (Some []) rest)) ≡ option_map names_in rest
unfolding pick
all_left bytes None = refl
all_left bytes (Some s) = refl

pub no_more : (n : ℕ) (a : Option (List ℕ)) → n ≡ 0 → GivesName (option_map (first_names n) a) (option_map (first_names n) a) None
unfolding first_names
no_more n None e = (tt, tt)
no_more n (Some s) e = rw e (refl, refl)

no_names : (n : ℕ) (s : List ℕ) → s ≡ [] → first_names n s ≡ []
unfolding first_names lines_of
no_names n s e = rw (e, take-nil n) refl

pub none_follows : (n m : ℕ) (a b : Option (List ℕ)) → m ≡ n → Keeps a b → IsAtEnd b → GivesName (option_map (first_names n) a) (option_map (first_names m) b) None
none_follows n m None None l k e = (tt, tt)
none_follows n m None (Some r) l k e = (tt, no_names m r e)
none_follows n m (Some s) None l k e = absurd k
none_follows n m (Some s) (Some r) l k e = (no_names n s (sym k ∙ e), no_names m r e)

-- the first of them is the first line's, and the others are those of the lines after it
name_first : (n : ℕ) (s : List ℕ) → 0 < n → 0 < length s → first_names n s ≡ kept_name (first_line s) ∷ first_names (n - 1) (after_line s)
unfolding first_names
name_first zero s h l = absurd (omega arith)
name_first (suc n) s h l = rw (line_first s l, sub-one) refl

pub name_follows : (n m : ℕ) (a b c : Option (List ℕ)) (name : List ℕ) → 0 < n → m ≡ n - 1 → Keeps a b → IfSome b (λ s. 0 < length s) → TakesName b c name
    → GivesName (option_map (first_names n) a) (option_map (first_names m) c) (Some name)
name_follows n m None b c name h l k w t = tt
name_follows n m (Some s) None c name h l k w t = absurd k
name_follows n m (Some s) (Some r) None name h l k w t = absurd t
name_follows n m (Some s) (Some r) (Some u) name h l k w t = rw (← k, l, t.0, t.1) (name_first n r h w)
