-- What a cut makes of a plan, told from the reach of its message.
use Prim.Native.Nat.{ℕ}
use mathlib.Core.Path.{◌≡◌, refl, subst}
use mathlib.Core.Bool.{false}
use borrow.Author.Tests.{eq-eqb, ne_eqb, le-ltb}
use native.Mathlib.Omega.{arith}
use Rattle.std.specs.Prelude.{Result, Ok, Err}
use Rattle.view.specs.Logic.{pick}
use Rattle.view.proofs.Sets.{count_none}
use Rattle.system.specs.declared.Variables.{Variables}
use Rattle.system.specs.declared.refusal.Refusal.{Refusal}
use Rattle.system.specs.declared.refusal.Refusal.TheVariants.{CutTooLate}
use Rattle.plan.specs.declared.Cut.{Cut}
use Rattle.plan.specs.declared.Cut.TheVariants.{Whole, After}
use Rattle.plan.specs.declared.Plan.{Plan}
use Rattle.plan.specs.Plan.{Planned}
use Rattle.plan.specs.Cut.{reach_of, only_whole, within_reach, cut_by}
use Rattle.plan.specs.ByValue.{planned, planned_of}

-- any step that sends
pub cut_reaches : (cut : Cut) (a : Planned) → a.refusal ≡ 0 → a.stops ≡ false → cut_by cut a ≡ within_reach a (reach_of cut a.addressees)
unfolding cut_by reach_of pick
cut_reaches Whole a plain goes = rw (← plain, ← goes) refl
cut_reaches (After k) a plain goes = rw (eq-eqb a.refusal 0 plain)

-- one that sends nothing
pub never_cut : (k : ℕ) → only_whole (After k) ≡ Err CutTooLate
unfolding only_whole reach_of pick
never_cut k = rw (count_none, le-ltb k 0 (omega arith))

-- ---- by value
-- the plan of a cut, from that of the action
pub planned_cut : (x : Variables) (cut : Cut) (a r : Result Plan Refusal) (b c : Plan) (w : Planned) → a ≡ Ok b → r ≡ Ok c
    → planned_of x a ≡ w → planned_of b.change.variables r ≡ cut_by cut (planned b) → planned c ≡ cut_by cut w
planned_cut x cut a r b c w e f whole after =
    subst (λ (y : Planned). planned c ≡ cut_by cut y) (subst (λ (y : Result Plan Refusal). planned_of x y ≡ w) e whole) (subst (λ (y : Result Plan Refusal). planned_of b.change.variables y ≡ cut_by cut (planned b)) f after)

pub cut_refused : (cut : Cut) (a : Planned) → (a.refusal ≡ 0 → ⊥) → cut_by cut a ≡ a
unfolding cut_by reach_of pick
cut_refused Whole a some = refl
cut_refused (After k) a some = rw (ne_eqb a.refusal 0 some)
