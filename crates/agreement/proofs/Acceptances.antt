-- Laws of who has accepted what.
use Prim.Native.Nat.{ℕ}
use mathlib.Core.Path.{◌≡◌, refl, sym, ◌∙◌, ap}
use mathlib.Core.Bool.{Bool, true, ◌||◌, or_assoc}
use mathlib.Core.List.{List, [], ◌∷◌, ◌++◌}
use mathlib.Core.Logic.{◌⊎◌}
use native.Mathlib.Omega.{arith}
use Rattle.agreement.specs.Accepted.{Acceptance, accepted, is_this}

append-accepted : (first rest : List Acceptance) (u v i : ℕ) → accepted (first ++ rest) u v i ≡ (accepted first u v i || accepted rest u v i)
unfolding accepted
append-accepted [] rest u v i = refl
append-accepted (a ∷ first) rest u v i = ap (λ (t : Bool). is_this a u v i || t) (append-accepted first rest u v i) ∙ sym (or_assoc (is_this a u v i) (accepted first u v i) (accepted rest u v i))

-- what was accepted stays accepted
pub still : (first rest : List Acceptance) (u v i : ℕ) → accepted first u v i ≡ true → accepted (first ++ rest) u v i ≡ true
still first rest u v i e = grind (arith, append-accepted)

pub newest : (first : List Acceptance) (u v i : ℕ) → accepted (first ++ (record { process = u; view = v; index = i } ∷ [])) u v i ≡ true
unfolding accepted
newest first u v i = grind (arith, append-accepted)

pub record Same (a : Acceptance) (u v i : ℕ) : Type 0 where
  pub process : u ≡ a.process
  pub view : v ≡ a.view
  pub index : i ≡ a.index

pub last_or_before : (first : List Acceptance) (a : Acceptance) (u v i : ℕ) → accepted (first ++ (a ∷ [])) u v i ≡ true → (accepted first u v i ≡ true) ⊎ Same a u v i
unfolding accepted
last_or_before first a u v i e = grind (arith, append-accepted)
