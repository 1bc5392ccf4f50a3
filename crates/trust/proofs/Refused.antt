-- A report that is refused with 13, inverted: the system is sound, its process is one of the system, the view names only processes of it, and
-- not all of those that it brings back may be trusted.
use Prim.Native.Nat.{ℕ}
use mathlib.Core.Path.{◌≡◌}
use mathlib.Core.Bool.{true, false}
use native.Mathlib.Omega.{arith}
use Rattle.view.specs.declared.ProcessId.{ProcessId}
use Rattle.view.specs.Logic.{pick, is_one_of}
use Rattle.view.specs.View.{within, subset, minus}
use Rattle.system.specs.declared.System.{System}
use Rattle.system.specs.System.{variables_at, trust_at}
use Rattle.sound.specs.Sound.{sound_system}
use Rattle.plan.specs.declared.Action.TheVariants.{Report}
use Rattle.plan.specs.declared.Cut.{Cut}
use Rattle.plan.specs.declared.Cut.TheVariants.{Whole, After}
use Rattle.plan.specs.declared.Scope.{Scope}
use Rattle.plan.specs.Plan.{new_view_plan, report_plan, Planned}
use Rattle.plan.specs.Scope.{scope_of}
use Rattle.plan.specs.Cut.{reach_of, cut_by}
use Rattle.step.specs.Step.{plan_of, carried_out, permitted, attempted, stepped}
use Rattle.trust.proofs.Views.{view_at}

pub record Refused13 (s : System) (p v : ℕ) : Type 0 where
  pub sound : sound_system s ≡ true
  pub actor : is_one_of s.n p ≡ true
  pub inside : within s.n v ≡ true
  pub part : subset (minus v (view_at s p)) (trust_at s p) ≡ false

report_13 : (s : System) (p v : ℕ) → (report_plan s.n p v (variables_at s p) (trust_at s p)).refusal ≡ 13
    → (within s.n v ≡ true) × (subset (minus v (view_at s p)) (trust_at s p) ≡ false)
unfolding report_plan new_view_plan pick
report_13 s p v e = grind arith

cut_13 : (cut : Cut) (a : Planned) → (cut_by cut a).refusal ≡ 13 → a.refusal ≡ 13
unfolding cut_by reach_of pick
cut_13 Whole a e = e
cut_13 (After k) a e = grind arith

permitted_13 : (s : System) (c : Scope) (a : Planned) → (permitted s c a).refusal ≡ 13 → (is_one_of s.n c.actor.0 ≡ true) × (a.refusal ≡ 13)
unfolding permitted carried_out pick
permitted_13 s c a e = grind arith

pub refused_13 : (s : System) (p : ProcessId) (v : ℕ) (cut : Cut) → (stepped s (record { action = Report p v; cut = cut })).refusal ≡ 13 → Refused13 s p.0 v
unfolding stepped attempted plan_of scope_of pick
refused_13 s p v cut e = grind (arith, permitted_13, cut_13, report_13 s p.0 v)
