-- What a process has of its own proposals, and the indices at which it may still propose; and what any effect does to these and to the
-- weight of each channel. Where a process stops, or some of the addressees are not told, there is only less.
use Prim.Native.Nat.{ℕ, ◌+◌, ◌*◌, ◌-◌, ◌≤◌, ◌<◌}
use mathlib.Core.Path.{◌≡◌}
use mathlib.Core.Bool.{Bool, true}
use mathlib.Core.List.{List}
use native.Mathlib.Omega.{arith}
use lib.ListN.{length}
use Rattle.std.specs.Prelude.{None, Some}
use Rattle.view.specs.declared.GroupIndex.{GroupIndex}
use Rattle.view.specs.Logic.{put, one}
use Rattle.view.specs.View.{has, with}
use Rattle.view.proofs.Laws.{at_put_same}
use Rattle.view.proofs.Sets.{has_none, has_only}
use Rattle.channel.specs.declared.Message.{Message}
use Rattle.channel.specs.declared.Message.TheVariants.{Propose, Retry, Acc, Commit}
use Rattle.system.specs.declared.Process.{Process}
use Rattle.system.specs.declared.System.{System}
use Rattle.system.specs.Process.{pending_at, Pending, proposal_at}
use Rattle.system.specs.System.{process_at, variables_at}
use Rattle.system.specs.Fresh.{fresh_variables, fresh_system}
use Rattle.plan.specs.declared.Change.{Change}
use Rattle.step.proofs.Cases.{waiting_at, afterwards, Effect}
use Rattle.step.proofs.Effects.{each_process, each_pending}
use Rattle.step.proofs.Weights.{unmarked, is, is_self, by_is, is_other, mark, count, weighs}
use Rattle.step.proofs.Beginning.{fresh_variables_lem}

-- ---- what a process has of its own proposals
-- on the proposer's channel to itself: what may still become its own mark
unfoldable pub selfward : Message → ℕ
selfward (Propose v i) = 1
selfward (Retry old new) = 1
selfward (Acc i) = 1
selfward (Commit v i) = 0

-- 1 where a proposal is recorded
unfoldable pub recorded : Pending → ℕ
recorded None = 0
recorded (Some r) = 1

pub recorded_small : (y : Pending) → recorded y ≤ 1
unfolding recorded
recorded_small None = omega arith
recorded_small (Some r) = omega arith

-- 1 where process b has recorded a proposal of process a
unfoldable pub held : System → ℕ → ℕ → ℕ
held s a b = recorded (pending_at (process_at s b) a)

-- the indices at which process a may still propose
unfoldable pub ahead : System → ℕ → ℕ
ahead s a = 32 - (variables_at s a).propout.0

-- what process a has of its own proposals
unfoldable pub stake : System → ℕ → ℕ
stake s a = count selfward (waiting_at s a a) + held s a a + mark s a

-- ---- each channel by any weight: what is taken off it, and what is put on
pub record Flows (s t : System) (off on : (Message → ℕ) → ℕ → ℕ → ℕ) : Type 0 where
  pub on_channel : (w : Message → ℕ) (a b : ℕ) → count w (waiting_at t a b) + off w a b ≤ count w (waiting_at s a b) + on w a b

-- a process after its record from q is cleared
emptied : (x : Process) (c : Change) (stops : Bool) (q : ℕ) → c.proposer.0 ≡ q → c.pending ≡ None → 1 ≤ q → q ≤ length x.pending
    → pending_at (afterwards x c stops) q ≡ None
unfolding afterwards pending_at
emptied x c stops q from none low high = grind (arith, at_put_same)

module _ {s t : System} {left : ℕ → ℕ → List Message} {p : ℕ} {c : Change} {stops : Bool} {to : ℕ} {m : Message} (f : Effect s t left p c stops to m) where
  module _ (off : (Message → ℕ) → ℕ → ℕ → ℕ) (taken : (w : Message → ℕ) (a b : ℕ) → count w (left a b) + off w a b ≡ count w (waiting_at s a b)) where
    flows : (on : (Message → ℕ) → ℕ → ℕ → ℕ) → ((w : Message → ℕ) (a b : ℕ) → a ≡ p → has to b ≡ true → w m ≤ on w a b) → Flows s t off on
    flows on new = record { on_channel = λ w a b. omega (arith, weighs f w a b (on w a b) (new w a b), taken w a b) }

    -- the message goes to a set of processes
    pub flows_sent : Flows s t off (λ w i j. is i p * w m)
    flows_sent = flows _ (λ w i j e named. rw (e, is_self p) (omega arith))

    -- to one process
    pub flows_answered : (q : ℕ) → 1 ≤ q → q ≤ 8 → to ≡ with 0 q → Flows s t off (λ w i j. is i p * is j q * w m)
    flows_answered q low high only =
        flows _ (λ w i j e named. rw (e, has_only q j low high (rw only at named), is_self p, is_self q) (omega arith))

    -- to none
    pub flows_quiet : to ≡ 0 → Flows s t off (λ w i j. 0)
    flows_quiet none = flows _ (λ w i j e named. absurd (has_none j (rw none at named)))

  -- ---- records
  pub held_steady : c.proposer.0 ≡ 0 → (a b : ℕ) → held t a b ≤ held s a b
  unfolding held afterwards pending_at put
  held_steady e a b = grind arith

  -- what is recorded from q
  pub held_more : (a b : ℕ) → held t a b ≤ held s a b + is a c.proposer.0 * is b p
  unfolding held
  held_more a b =
      each_process f (λ k y. recorded (pending_at y a) ≤ recorded (pending_at (process_at s k) a) + is a c.proposer.0 * is k p)
      (rw (is_self p)
      (each_pending (λ j y. recorded y ≤ recorded (pending_at (process_at s p) j) + is j c.proposer.0 * 1) (process_at s p) c stops
      (λ l. rw (is_self c.proposer.0) (omega (arith, recorded_small c.pending)))
      (λ j. omega arith)
      a))
      (λ k. omega arith)
      b

  -- a record that is cleared
  pub held_cleared : (q v : ℕ) (i : GroupIndex) → c.proposer.0 ≡ q → c.pending ≡ None → 1 ≤ q → q ≤ length (process_at s p).pending
      → pending_at (process_at s p) q ≡ Some (proposal_at v i)
      → (a b : ℕ)
      → held t a b + is a q * is b p ≤ held s a b
  unfolding held recorded
  held_cleared q v i from none low high was a b =
      by_is (λ x. held t a b + x * is b p ≤ held s a b) a q
      (λ e.
      by_is (λ y. held t a b + 1 * y ≤ held s a b) b p
      (λ d. rw (e, d, was, cleared) (omega arith))
      (λ h. rw (f.others b h) (omega arith)))
      (λ h. omega (arith, fewer))
    where
      fewer : recorded (pending_at (process_at t b) a) ≤ recorded (pending_at (process_at s b) a)
      fewer =
          each_process f (λ k y. recorded (pending_at y a) ≤ recorded (pending_at (process_at s k) a))
          (each_pending (λ j y. recorded y ≤ recorded (pending_at (process_at s p) j)) (process_at s p) c stops (λ l. rw none (omega arith)) (λ j. omega arith) a)
          (λ k. omega arith)
          b

      cleared : pending_at (process_at t p) q ≡ None
      cleared = rw f.actor (emptied (process_at s p) c stops q from none low high)

  -- ---- marks: x is used up, and z pays
  pub marks_paid : (x z : ℕ → ℕ) → one (has c.variables.acks p) + x p ≤ mark s p + z p → ((k : ℕ) → (k ≡ p → ⊥) → x k ≤ z k) → (a : ℕ)
      → mark t a + x a ≤ mark s a + z a
  unfolding mark afterwards
  marks_paid x z own other = grind arith

  pub marks_fewer : one (has c.variables.acks p) ≤ mark s p → (a : ℕ) → mark t a ≤ mark s a
  marks_fewer own a = omega (arith, marks_paid (λ k. 0) (λ k. 0) (omega arith) (λ k h. omega arith) a)

  -- ---- PropOut
  pub ahead_steady : c.variables.propout ≡ (variables_at s p).propout → (a : ℕ) → ahead t a ≤ ahead s a
  unfolding ahead afterwards
  ahead_steady e = grind arith

  pub ahead_falls : (variables_at s p).propout.0 < c.variables.propout.0 → c.variables.propout.0 ≤ 32 → (a : ℕ) → ahead t a + is a p ≤ ahead s a
  unfolding ahead afterwards
  ahead_falls rises below = grind (arith, is_self, is_other)

-- ---- in a fresh system
module _ (n a : ℕ) (low : 1 ≤ a) (high : a ≤ 8) where
  pub fresh_mark : mark (fresh_system n) a ≡ 0
  unfolding mark fresh_variables
  fresh_mark = grind (arith, fresh_variables_lem, unmarked)

  pub fresh_ahead : ahead (fresh_system n) a ≡ 31
  unfolding ahead fresh_variables
  fresh_ahead = grind (arith, fresh_variables_lem)
