-- The image of a fresh system: for a size that there is, for another, and where the bytes have not the length of an image.
use Prim.Native.Nat.{ℕ}
use mathlib.Core.Path.{◌≡◌, refl, ◌∙◌}
use mathlib.Core.Bool.{Bool, true, false}
use mathlib.Core.List.{List}
use native.Mathlib.Omega.{arith}
use borrow.Author.Tests.{eq-eqb, ne_eqb}
use lib.Dec.{eqb}
use lib.ListN.{length}
use Rattle.view.specs.Logic.{pick, is_one_of}
use Rattle.system.specs.Fresh.{fresh_system, fresh_of}
use Rattle.image.specs.Image.{image_width, system_in}
use Rattle.capi.specs.Calls.{Freshens}

written : (n : ℕ) (b c : List ℕ) → length b ≡ image_width → system_in c ≡ pick (eqb (length b) image_width) (fresh_system n) (system_in b) → system_in c ≡ fresh_system n
unfolding pick
written n b c long e = e ∙ rw (eq-eqb (length b) image_width long)

pub started : (n : ℕ) (b c : List ℕ) (t : Bool) → length b ≡ image_width → t ≡ is_one_of 8 n → t ≡ true
    → system_in c ≡ pick (eqb (length b) image_width) (fresh_system n) (system_in b) → Freshens n b 0 c
unfolding pick fresh_of
started n b c t long is holds e =
    record { outcome = rw (eq-eqb (length b) image_width long, ← is, holds, written n b c long e); kept = λ one. absurd (omega arith) }

pub stranger : (n : ℕ) (b c : List ℕ) (t : Bool) → length b ≡ image_width → t ≡ is_one_of 8 n → t ≡ false
    → system_in c ≡ pick (eqb (length b) image_width) (fresh_system 0) (system_in b) → Freshens n b 2 c
unfolding pick fresh_of
stranger n b c t long is fails e =
    record { outcome = rw (eq-eqb (length b) image_width long, ← is, fails, written 0 b c long e); kept = λ one. absurd (omega arith) }

pub no_image : (n : ℕ) (b : List ℕ) → (length b ≡ image_width → ⊥) → Freshens n b 1 b
unfolding pick
no_image n b other = record { outcome = rw (ne_eqb (length b) image_width other); kept = λ one. refl }
