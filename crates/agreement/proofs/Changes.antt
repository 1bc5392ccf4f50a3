-- Any effect of an honest change that sends honest messages keeps what is so of every system that steps reach, and the written
-- entries. Whether all addressees are told, and whether the process stops, makes no difference.
use Prim.Native.Nat.{ℕ, ◌≤◌, ◌<◌}
use mathlib.Core.Path.{◌≡◌, refl, sym, subst}
use mathlib.Core.Bool.{Bool, true}
use mathlib.Core.List.{List}
use native.Mathlib.Omega.{arith}
use Rattle.view.specs.declared.ProcessId.{ProcessId}
use Rattle.view.specs.View.{has}
use Rattle.view.proofs.Laws.{each_as}
use Rattle.view.proofs.Sets.{has_none}
use Rattle.channel.specs.declared.Message.{Message}
use Rattle.system.specs.declared.Variables.{Variables}
use Rattle.system.specs.declared.Process.{Process}
use Rattle.system.specs.declared.System.{System}
use Rattle.system.specs.Process.{pending_at, Pending}
use Rattle.system.specs.System.{process_at, variables_at, entry_in}
use Rattle.plan.specs.declared.Change.{Change}
use Rattle.plan.specs.Plan.{recording, no_message}
use Rattle.step.proofs.Cases.{afterwards, Effect}
use Rattle.step.proofs.Effects.{Part, each_process, each_process_but, each_message, each_pending, each_entry}
use Rattle.agreement.specs.Accepted.{Acceptance, accepted}
use Rattle.agreement.proofs.Invariant.{Honest, Recorded, Own, Entered, Reached, Grown, Later, later_equal, own_later, entered_later, honest_later, recorded_later}

-- ---- what a process may do
-- process p accepts, and Next is then the number given
pub record Accepting (p next : ℕ) (old new : List Acceptance) : Type 0 where
  pub grown : Grown old new
  pub others : (u v i : ℕ) → (u ≡ p → ⊥) → accepted new u v i ≡ true → accepted old u v i ≡ true
  pub passed : (v i : ℕ) → accepted new p v i ≡ true → i < next
  pub member : (u v i : ℕ) → accepted new u v i ≡ true → has v u ≡ true
  pub one_view : (u v w i : ℕ) → accepted new u v i ≡ true → accepted new u w i ≡ true → v ≡ w

-- nothing is accepted, and Next stays
pub accepting_none : {s : System} {acc : List Acceptance} → Reached s acc → (p : ℕ) → Accepting p (variables_at s p).next.0 acc acc
accepting_none r p = grind arith

-- process p of s changes so; old was accepted before the step, and new is then
pub record HonestChange (s : System) (old new : List Acceptance) (p : ℕ) (c : Change) : Type 0 where
  pub accepting : Accepting p c.variables.next.0 old new
  pub later : Later (variables_at s p) c.variables
  pub own : Own new p c.variables
  pub recorded : Recorded (variables_at s) c.proposer.0 c.pending
  pub past : 1 ≤ c.index.0 → 2 ≤ c.index.0
  pub entered : 1 ≤ c.index.0 → Entered new p c.index.0 c.entry

-- variables are assigned and a record is made or cleared, or none is
pub recording_honest : {s : System} {old new : List Acceptance} {p : ℕ} {y : Variables} (q : ProcessId) (d : Pending) → Accepting p y.next.0 old new
    → Later (variables_at s p) y
    → Own new p y
    → Recorded (variables_at s) q.0 d
    → HonestChange s old new p (recording y q d)
recording_honest q d accepting later own recorded = grind arith

-- ---- later systems: the first entries stay, and every entry that is written
pub record Since (s t : System) : Type 0 where
  pub first : (p i : ℕ) → i < 2 → entry_in t p i ≡ entry_in s p i
  pub written : (p i : ℕ) → (entry_in s p i ≡ 0 → ⊥) → entry_in t p i ≡ entry_in s p i

pub since_same : (s : System) → Since s s
since_same s = record { first = λ p i l. refl; written = λ p i h. refl }

pub since_then : {s t u : System} → Since s t → Since t u → Since s u
since_then a b = grind arith

-- ---- the effect
module _ {s t : System} {left : ℕ → ℕ → List Message} {p : ℕ} {c : Change} {stops : Bool} {to : ℕ} {m : Message} (f : Effect s t left p c stops to m) where
  -- of the variables of the process that acted
  pub at_actor : (P : Variables → Type 0) → P (afterwards (process_at s p) c stops).variables → P (variables_at t p)
  at_actor P = subst (λ (x : Process). P x.variables) (sym f.actor)

  module _ {old new : List Acceptance} (r : Reached s old) (part : Part s left) (h : HonestChange s old new p c) where
    pub later_all : (k : ℕ) → Later (variables_at s k) (variables_at t k)
    unfolding afterwards
    later_all = grind (arith, each_process, later_equal)

    pub effect_reached : ((b : ℕ) → has to b ≡ true → Honest new (variables_at t) p b m) → Reached t new
    unfolding afterwards
    effect_reached honest =
        record {
          shape = f.shape;
          passed =
              each_process_but f (λ k y. (v i : ℕ) → accepted new k v i ≡ true → i < y.variables.next.0)
              h.accepting.passed
              (λ k n v i a. r.passed k v i (h.accepting.others k v i n a));
          member = h.accepting.member;
          one_view = h.accepting.one_view;
          own =
              each_process f (λ k y. Own new k y.variables)
              (record { marks = h.own.marks; leads = h.own.leads })
              (λ k. own_later h.accepting.grown (r.own k));
          recorded = λ u q.
              recorded_later later_all q (pending_at (process_at t u) q)
              (each_process f (λ k y. (j : ℕ) → Recorded (variables_at s) j (pending_at y j))
              (each_pending (Recorded (variables_at s)) (process_at s p) c stops (λ l. h.recorded) (r.recorded p))
              r.recorded
              u
              q);
          messages =
              each_message f (Honest new (variables_at t))
              (λ a b.
              each_as (Honest old (variables_at s) a b) (Honest new (variables_at t) a b) (honest_later h.accepting.grown later_all a b) (left a b)
              (part (Honest old (variables_at s) a b) a b (r.messages a b)))
              (λ b named live. honest b named);
          entries =
              each_entry f (λ k i v. 2 ≤ i → (v ≡ 0 → ⊥) → Entered new k i v) (λ l low some. h.entered l)
              (λ k i low some. entered_later h.accepting.grown (r.entries k i low some));
        }

    -- an entry that is written again is the same: its process has accepted both
    pub effect_since : Since s t
    effect_since =
        record {
          first = each_entry f (λ k i v. i < 2 → v ≡ entry_in s k i) (λ l below. absurd (omega (arith, h.past l))) (λ k i l. refl);
          written = each_entry f (λ k i v. (entry_in s k i ≡ 0 → ⊥) → v ≡ entry_in s k i) again (λ k i l. refl);
        }
      where
        again : 1 ≤ c.index.0 → (entry_in s p c.index.0 ≡ 0 → ⊥) → c.entry ≡ entry_in s p c.index.0
        again l some =
            let before = entered_later h.accepting.grown (r.entries p c.index.0 (h.past l) some) in
            h.accepting.one_view p c.entry (entry_in s p c.index.0) c.index.0
            ((h.entered l).agreed p (h.entered l).own)
            (before.agreed p before.own)

-- ---- the system t after s, and what has been accepted then
pub record After (s t : System) (acc : List Acceptance) : Type 0 where
  pub reached : Reached t acc
  pub since : Since s t

module _ {s t : System} {old : List Acceptance} (r : Reached s old) {left : ℕ → ℕ → List Message} (part : Part s left) {p : ℕ} {c : Change} {stops : Bool} where
  pub effect_after : {to : ℕ} {m : Message} {new : List Acceptance} (f : Effect s t left p c stops to m) → HonestChange s old new p c
      → ((b : ℕ) → has to b ≡ true → Honest new (variables_at t) p b m)
      → After s t new
  effect_after f h honest = record { reached = effect_reached f r part h honest; since = effect_since f r part h }

  pub quiet_after : {new : List Acceptance} → Effect s t left p c stops 0 no_message → HonestChange s old new p c → After s t new
  quiet_after f h = effect_after f h (λ b named. absurd (has_none b named))
