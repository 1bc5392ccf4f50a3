-- How the code goes through a line: what it reads at a place of it, and the place after that.
use Rattle.std.specs.Prelude.{◌≡◌, ℕ, suc, ◌+◌, ◌&&◌, List, [], ◌∷◌, eqb, leb, ltb, length, get_or, drop, Result, Ok, Err}
use Prim.Native.Char.{code}
use Rattle.view.specs.Logic.{pick}
use Rattle.view.specs.View.{with}
use Rattle.view.specs.declared.ProcessId.{ProcessId}
use Rattle.plan.specs.declared.Cut.{Cut}
use Rattle.plan.specs.declared.Cut.TheVariants.{Whole, After}
use Rattle.print.specs.Text.{bytes}
use Rattle.sheet.specs.declared.cursor.Cursor.{Cursor}
use Rattle.sheet.specs.declared.parse.BadFrom.{BadFrom}
use Rattle.sheet.specs.Grammar.{rises, value_of, from_column}
use Rattle.sheet.specs.Parse.{process}

-- a call reads what stands at the cursor's place, and moves it on
abbrev pub with_place : {A : Type 0} → Result A BadFrom → ℕ → Result (A × ℕ) BadFrom
with_place (Ok a) at = Ok (a, at)
with_place (Err bad) at = Err bad

abbrev pub Reads : {A : Type 0} → (List ℕ → ℕ → Result (A × ℕ) BadFrom) → Cursor → Result A BadFrom → Cursor → Type 0
Reads what_at c result d = (d.line ≡ c.line) × (with_place result d.at ≡ what_at c.line.now c.at)

-- the code's `?`: where the line is good so far, what follows
infixl 10 ◌>>=◌
abbrev pub ◌>>=◌ : {A B : Type 0} → Result A BadFrom → (A → Result B BadFrom) → Result B BadFrom
Ok a >>= f = f a
Err bad >>= f = Err bad

-- a byte from `low` to `high`
unfoldable pub byte_at : ℕ → ℕ → List ℕ → ℕ → Result (ℕ × ℕ) BadFrom
byte_at low high l at =
    pick (ltb at (length l) && (leb low (get_or l at 0) && leb (get_or l at 0) high)) (Ok (get_or l at 0, at + 1)) (Err (from_column (at + 1)))

unfoldable pub text_at : List ℕ → List ℕ → ℕ → Result (Unit {0} × ℕ) BadFrom
text_at [] l at = Ok (tt, at)
text_at (c ∷ t) l at = byte_at c c l at >>= λ b. text_at t l b.1

unfoldable pub digit_at : List ℕ → ℕ → Result (ℕ × ℕ) BadFrom
digit_at l at = byte_at (code "0") (code "9") l at >>= λ b. Ok (value_of b.0, b.1)

unfoldable pub process_named_at : List ℕ → ℕ → Result (ProcessId × ℕ) BadFrom
process_named_at l at = text_at (bytes " ") l at >>= λ s. digit_at l s.1 >>= λ d. Ok (process d.0, d.1)

-- digits each above the last one, and none above 8, added to a view; `at` is the place of the first
unfoldable pub risen : ℕ → ℕ → ℕ → List ℕ → ℕ × ℕ
risen at last v [] = (v, at)
risen at last v (b ∷ bs) = pick (rises last b) (risen (suc at) b (with v (value_of b)) bs) (v, at)

-- a view that is no empty one
unfoldable pub some_view : ℕ × ℕ → Result (ℕ × ℕ) BadFrom
some_view w = pick (eqb w.0 0) (Err (from_column (w.1 + 1))) (Ok w)

-- the view that begins at a place, from which these bytes are left
unfoldable pub view_from : ℕ → List ℕ → Result (ℕ × ℕ) BadFrom
view_from at l = pick (eqb (get_or l 0 0) (code "-")) (Ok (0, at + 1)) (some_view (risen at (code "0") 0 l))

unfoldable pub view_at : List ℕ → ℕ → Result (ℕ × ℕ) BadFrom
view_at l at = text_at (bytes " ") l at >>= λ s. view_from s.1 (drop s.1 l)

-- the end of the line, before which ` cut K` may stand
unfoldable pub end_at : List ℕ → ℕ → Result (Unit {0}) BadFrom
end_at l at = pick (ltb at (length l)) (Err (from_column (at + 1))) (Ok tt)

unfoldable pub cut_at : List ℕ → ℕ → Result Cut BadFrom
cut_at l at =
    pick (ltb at (length l)) (text_at (bytes " cut ") l at >>= λ s. digit_at l s.1 >>= λ d. end_at l d.1 >>= λ end. Ok (After d.0)) (Ok Whole)
