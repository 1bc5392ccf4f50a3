-- Names in chunks: what is taken from a chunk, and that a name cut across chunks is taken whole.
use Prim.Native.Nat.{ℕ, suc, ◌+◌, ◌-◌, ◌≤◌, ◌<◌}
use mathlib.Core.Path.{◌≡◌, refl, sym, ◌∙◌, ap}
use mathlib.Core.Bool.{Bool, true, false, ◌||◌}
use mathlib.Core.List.{List, [], ◌∷◌, ◌++◌}
use native.Mathlib.Omega.{arith}
use borrow.Author.Tests.{lt-ltb, le-ltb, ltb-true, ltb-false}
use Rattle.std.specs.Prelude.{None}
use Rattle.std.specs.Bool.{then_some}
use lib.Dec.{ltb}
use lib.ListN.{length, take, drop, length-drop, drop_of_length-le}
use Rattle.view.specs.Logic.{pick}
use Rattle.view.proofs.Laws.{by_test}
use Rattle.sheet.specs.Lines.{is_feed, line_length, next_place}
use Rattle.sheet.proofs.Laws.{line_within}
use Rattle.print.specs.declared.Page.{Page}
use Rattle.print.specs.Page.{typed_on}
use Rattle.print.proofs.Typing.{typed_on_nil}
use Rattle.class.specs.Names.{first_line, has_feed, after_feed, Gathers}

-- ---- one chunk
-- the line at a place within the chunk
pub record Here (s : List ℕ) (at next : ℕ) : Type 0 where
  pub after : next ≡ at + line_length (drop at s) + 1
  pub within : at + line_length (drop at s) ≤ length s

pub line_here : (s : List ℕ) (at next : ℕ) → at < length s → next ≡ next_place s at → Here s at next
unfolding next_place pick
line_here s at next h e = record { after = e ∙ rw (lt-ltb at (length s) h); within = line_within s at (omega arith) }

-- the line feed is met where the line ends before the chunk does
same_order : (a b c d : ℕ) → (a < b → c < d) → (b ≤ a → d ≤ c) → ltb a b ≡ ltb c d
same_order a b c d f g = by_test (ltb a b) (λ e. e ∙ sym (lt-ltb c d (f (ltb-true a b e)))) (λ e. e ∙ sym (le-ltb c d (g (ltb-false a b e))))

met : (l : List ℕ) → ltb (line_length l) (length l) ≡ has_feed l
unfolding line_length has_feed pick
met [] = refl
met (x ∷ l) = by (is_feed x) (met l)
  where
    by : (t : Bool) → ltb (line_length l) (length l) ≡ has_feed l → ltb (pick t 0 (suc (line_length l))) (suc (length l)) ≡ (t || has_feed l)
    by true e = lt-ltb 0 (suc (length l)) (omega arith)
    by false e = same_order (suc (line_length l)) (suc (length l)) (line_length l) (length l) (λ h. omega arith) (λ h. omega arith) ∙ e

pub taken_up_to : (s : List ℕ) (at next : ℕ) (before after : Page) → at < length s → next ≡ next_place s at
    → after ≡ typed_on before (take (next - 1 - at) (drop at s)) → Gathers s at before after (then_some (ltb (next - 1) (length s)) next)
unfolding first_line after_feed
taken_up_to s at next before after h e t =
    let here : Here s at next = line_here s at next h e in
    let end : next - 1 ≡ at + line_length (drop at s) = omega (arith, here.after) in
    let long : next - 1 - at ≡ line_length (drop at s) = omega arith in
    let told : ltb (next - 1) (length s) ≡ has_feed (drop at s) =
    same_order (next - 1) (length s) (line_length (drop at s)) (length (drop at s)) (λ l. omega (arith, length-drop at s)) (λ l. omega (arith, length-drop at s))
    ∙ met (drop at s) in
    record { name = t ∙ rw long; place = rw (told, e) }

-- past the end of the chunk nothing is taken
pub none_taken : (s : List ℕ) (at : ℕ) (p : Page) → length s ≤ at → Gathers s at p p None
unfolding first_line has_feed after_feed line_length pick
none_taken s at p h =
    record {
      name = rw (drop_of_length-le s h) (sym (typed_on_nil p));
      place = rw (drop_of_length-le s h);
    }

-- ---- two chunks: what the first lacks comes from the second
pub across : (a b : List ℕ) → first_line (a ++ b) ≡ first_line a ++ pick (has_feed a) [] (first_line b)
unfolding first_line has_feed line_length pick
across [] b = refl
across (x ∷ a) b = by (is_feed x) (across a b)
  where
    by : (t : Bool) → first_line (a ++ b) ≡ first_line a ++ pick (has_feed a) [] (first_line b)
        → take (pick t 0 (suc (line_length (a ++ b)))) (x ∷ a ++ b) ≡ take (pick t 0 (suc (line_length a))) (x ∷ a) ++ pick (t || has_feed a) [] (take (line_length b) b)
    by true e = refl
    by false e = ap (λ (l : List ℕ). x ∷ l) e

pub met_across : (a b : List ℕ) → has_feed (a ++ b) ≡ (has_feed a || has_feed b)
unfolding has_feed
met_across [] b = refl
met_across (x ∷ a) b = by (is_feed x) (met_across a b)
  where
    by : (t : Bool) → has_feed (a ++ b) ≡ (has_feed a || has_feed b) → (t || has_feed (a ++ b)) ≡ ((t || has_feed a) || has_feed b)
    by true e = refl
    by false e = e
