-- What remains after an effect: of the messages that wait for a live process, of what is recorded, and of the variables.
use Prim.Native.Nat.{ℕ}
use mathlib.Core.Path.{◌≡◌, sym, ◌∙◌, ap, subst}
use mathlib.Core.Bool.{Bool, true, false}
use mathlib.Core.List.{List, [], ◌∷◌, ◌++◌}
use mathlib.Core.Logic.{◌⊎◌}
use native.Mathlib.Omega.{arith}
use Rattle.std.specs.Prelude.{None, Any}
use Rattle.std.proofs.lemmas.Grind.{common_steps}
use Rattle.view.specs.Logic.{put}
use Rattle.view.proofs.Laws.{true_is_not_false, at_put_same, at_put_other}
use Rattle.channel.specs.declared.Message.{Message}
use Rattle.system.specs.declared.Process.{Process}
use Rattle.system.specs.declared.System.{System}
use Rattle.system.specs.Process.{pending_at}
use Rattle.system.specs.System.{process_at, variables_at}
use Rattle.plan.specs.declared.Change.{Change}
use Rattle.step.proofs.Frames.{Shape}
use Rattle.step.proofs.Cases.{waiting_at, Known, Taken, afterwards, stays, grows, empties, Effect}

-- ---- one of a list
pub none_of_empty : {A : Type 0} (P : A → Type 0) → Any P [] → ⊥
none_of_empty P (k, x, below, found, holds) = omega arith

any_front : {A : Type 0} (P : A → Type 0) (xs ys : List A) → Any P xs → Any P (xs ++ ys)
any_front P xs ys (k, x, below, found, holds) = (k, x, grind (arith, common_steps), grind (arith, common_steps), holds)

-- ---- the message taken, or one that is left
pub record Took (q p : ℕ) (m : Message) (P : Message → Type 0) (a b : ℕ) : Type 0 where
  pub from : a ≡ q
  pub to : b ≡ p
  pub this : P m

pub some_left : {s : System} {q p : ℕ} {m : Message} {left : ℕ → ℕ → List Message} → Taken s q p m left → (P : Message → Type 0) (a b : ℕ)
    → Any P (waiting_at s a b)
    → Any P (left a b) ⊎ Took q p m P a b
some_left {s} {q} {p} {m} {left} k P a b e = grind arith

recorded_away : (x : Process) (c : Change) (stops : Bool) (j : ℕ) → (j ≡ c.proposer.0 → ⊥) → pending_at (afterwards x c stops) j ≡ pending_at x j
unfolding afterwards pending_at
recorded_away x c stops j h =
    at_put_other x.pending c.proposer.0 j c.pending None h

module _ {s t : System} {left : ℕ → ℕ → List Message} {p : ℕ} {c : Change} {stops : Bool} {to : ℕ} {m : Message} (f : Effect s t left p c stops to m) where
  -- ---- who is live
  stopped : stops ≡ true → (variables_at t p).crashed ≡ true
  unfolding afterwards
  stopped e = ap (λ (x : Process). x.variables.crashed) f.actor ∙ rw e

  pub live_goes_on : (variables_at t p).crashed ≡ false → stops ≡ false
  live_goes_on live = grind (arith, stopped)

  -- ---- a message that is left for a live process waits for it
  pub some_kept : (P : Message → Type 0) (a b : ℕ) → (variables_at t b).crashed ≡ false → Any P (left a b) → Any P (waiting_at t a b)
  some_kept P a b live h =
      elim (f.channels a b) [
        | stays e ↦ subst (Any P) (sym e) h
        | grows e told l g ↦ subst (Any P) (sym g) (any_front P (left a b) (m ∷ []) h)
        | empties e stop g ↦ true_is_not_false (sym (stopped stop) ∙ subst (λ (k : ℕ). (variables_at t k).crashed ≡ false) e live)
      ]

  -- ---- what is recorded: from the proposer of the change, and from the others as it was
  pub recorded_new : Shape s → Known s c.proposer.0 → pending_at (process_at t p) c.proposer.0 ≡ c.pending
  unfolding afterwards pending_at
  recorded_new shape known = grind (arith, at_put_same)

  pub recorded_other : (u j : ℕ) → ((u ≡ p) × (j ≡ c.proposer.0) → ⊥) → pending_at (process_at t u) j ≡ pending_at (process_at s u) j
  recorded_other u j h = grind (arith, recorded_away)

  -- no record is made or cleared
  pub recorded_same : c.proposer.0 ≡ 0 → (u j : ℕ) → pending_at (process_at t u) j ≡ pending_at (process_at s u) j
  unfolding afterwards pending_at put
  recorded_same none u j = grind arith
