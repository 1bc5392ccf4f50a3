-- What a step changes that the marks' meaning speaks of: the local views, and the marks.
use Prim.Native.Nat.{ℕ}
use mathlib.Core.Path.{◌≡◌, refl, ◌∙◌, ap}
use mathlib.Core.Bool.{Bool}
use mathlib.Core.List.{List}
use native.Mathlib.Omega.{arith}
use Rattle.channel.specs.declared.Message.{Message}
use Rattle.system.specs.declared.Process.{Process}
use Rattle.system.specs.declared.System.{System}
use Rattle.system.specs.System.{variables_at}
use Rattle.plan.specs.declared.Change.{Change}
use Rattle.plan.specs.declared.Action.{Action}
use Rattle.step.proofs.Cases.{afterwards, Effect, SameTrust, Doubts, Transition, proposes, follows, records, reproposes, ignores, marks, commits, enters, accepts, declines, crashes}

abbrev pub view_at : System → ℕ → ℕ
view_at s k = (variables_at s k).view

-- every view and every mark stays, or one process is told a new one
pub data Views (s t : System) : Type 0 where
  kept : ((k : ℕ) → view_at t k ≡ view_at s k) → SameTrust s t → Views s t
  renewed : (p v : ℕ) → view_at t p ≡ v → ((k : ℕ) → (k ≡ p → ⊥) → view_at t k ≡ view_at s k) → Doubts s t p v → Views s t

module _ {s t : System} {left : ℕ → ℕ → List Message} {p : ℕ} {c : Change} {stops : Bool} {to : ℕ} {m : Message} (f : Effect s t left p c stops to m) where
  stays_so : c.variables.view ≡ view_at s p → SameTrust s t → Views s t
  unfolding afterwards
  stays_so e trust = grind arith

  is_renewed : (v : ℕ) → c.variables.view ≡ v → Doubts s t p v → Views s t
  unfolding afterwards
  is_renewed v e doubts =
      renewed p v
      (ap (λ (x : Process). x.variables.view) f.actor ∙ e)
      (λ k n. ap (λ (x : Process). x.variables.view) (f.others k n))
      doubts

pub views : {s t : System} {o : Action} → Transition s t o → Views s t
views (proposes r) = is_renewed r.effect _ refl r.doubts
views (follows r) = is_renewed r.effect _ refl r.doubts
views (records r) = stays_so r.effect refl r.trust
views (reproposes r) = stays_so r.effect refl r.trust
views (ignores r) = stays_so r.effect refl r.trust
views (marks r) = stays_so r.effect refl r.trust
views (commits r) = stays_so r.effect refl r.trust
views (enters r) = stays_so r.effect refl r.trust
views (accepts r) = stays_so r.effect refl r.trust
views (declines r) = stays_so r.effect refl r.trust
views (crashes r) = stays_so r.effect refl r.trust
