-- The cases of a step: which of the eleven transitions of Figure 3 it was, and what it changed. One that sends may have been cut: then the
-- process stops, and some of the addressees are told nothing.
use Prim.Native.Nat.{ℕ, ◌≤◌, ◌<◌, ◌+◌}
use mathlib.Core.Path.{◌≡◌, refl}
use mathlib.Core.Bool.{Bool, true, false, ◌||◌, not}
use mathlib.Core.List.{List, [], ◌∷◌, ◌++◌}
use Rattle.std.specs.Prelude.{None, Some}
use Rattle.view.specs.declared.ProcessId.{ProcessId}
use Rattle.view.specs.declared.GroupIndex.{GroupIndex}
use Rattle.view.specs.Logic.{put}
use Rattle.view.specs.View.{has, within, subset, with, least_of}
use Rattle.channel.specs.declared.Message.{Message}
use Rattle.channel.specs.declared.Message.TheVariants.{Propose, Retry, Acc, Commit}
use Rattle.channel.specs.Channel.{waiting}
use Rattle.system.specs.declared.Variables.{Variables}
use Rattle.system.specs.declared.Process.{Process}
use Rattle.system.specs.declared.System.{System}
use Rattle.system.specs.Process.{index, with_entry, pending_at, proposal_at}
use Rattle.system.specs.System.{process_at, variables_at, channel_at, may_trust}
use Rattle.plan.specs.declared.Change.{Change}
use Rattle.plan.specs.declared.Action.{Action}
use Rattle.plan.specs.declared.Action.TheVariants.{Report, Receive, Respond, Crash}
use Rattle.plan.specs.Fields.{with_view, with_next, with_acks, proposing, reproposing}
use Rattle.plan.specs.Plan.{assigning, recording, entering, no_message}
use Rattle.plan.specs.Scope.{scope_of}
use Rattle.step.proofs.Frames.{Shape}
use Rattle.step.proofs.Soundness.{SoundProposal}

-- ---- who acts, and what is taken off
-- the messages that wait from a to b, oldest first
abbrev pub waiting_at : System → ℕ → ℕ → List Message
waiting_at s a b = waiting (channel_at s a b)

-- k is one of the processes 1 to n, of which there are at most eight
pub record Known (s : System) (k : ℕ) : Type 0 where
  pub low : 1 ≤ k
  pub high : k ≤ s.n
  pub eight : k ≤ 8

-- p is one of them, and has not stopped
pub record Acts (s : System) (p : ℕ) : Type 0 where
  pub known : Known s p
  pub live : (variables_at s p).crashed ≡ false

-- m was the oldest message from q to p, and the others are left
pub record Taken (s : System) (q p : ℕ) (m : Message) (left : ℕ → ℕ → List Message) : Type 0 where
  pub first : waiting_at s q p ≡ m ∷ left q p
  pub others : (a b : ℕ) → ((a ≡ q) × (b ≡ p) → ⊥) → left a b ≡ waiting_at s a b

-- ---- what a step changes
-- a process after a change, and stopped where the step stops it
unfoldable pub afterwards : Process → Change → Bool → Process
afterwards x c stops =
    record {
      variables =
          record {
            crashed = stops || c.variables.crashed;
            view = c.variables.view;
            next = c.variables.next;
            propout = c.variables.propout;
            proposal = c.variables.proposal;
            acks = c.variables.acks;
          };
      pending = put x.pending c.proposer.0 c.pending;
      history = with_entry x.history c.index.0 c.entry;
    }

-- what becomes of the channel from a to b, where p tells a set of processes m, and stops or not
pub data Fate (s t : System) (left : ℕ → ℕ → List Message) (p : ℕ) (stops : Bool) (told : ℕ) (m : Message) (a b : ℕ) : Type 0 where
  stays : waiting_at t a b ≡ left a b → Fate s t left p stops told m a b
  grows : a ≡ p → has told b ≡ true → (variables_at s b).crashed ≡ false → waiting_at t a b ≡ left a b ++ (m ∷ []) → Fate s t left p stops told m a b
  empties : b ≡ p → stops ≡ true → waiting_at t a b ≡ [] → Fate s t left p stops told m a b

-- From s to t, where the messages left are those that the step did not take: process p changes, sends m to the processes of a view, and
-- stops or not. Numbers past 1 to n are spoken of too.
pub record Effect (s t : System) (left : ℕ → ℕ → List Message) (p : ℕ) (c : Change) (stops : Bool) (to : ℕ) (m : Message) : Type 0 where
  pub shape : Shape t
  pub size : t.n ≡ s.n
  pub actor : process_at t p ≡ afterwards (process_at s p) c stops
  pub others : (k : ℕ) → (k ≡ p → ⊥) → process_at t k ≡ process_at s k
  -- those that are told: some of the addressees, and all of them where the step does not stop p
  pub told : ℕ
  pub addressed : (b : ℕ) → has told b ≡ true → has to b ≡ true
  pub whole : stops ≡ false → (b : ℕ) → has to b ≡ true → has told b ≡ true
  -- each channel, and those on which m goes out
  pub channels : (a b : ℕ) → Fate s t left p stops told m a b
  pub sent : (b : ℕ) → has told b ≡ true → (variables_at s b).crashed ≡ false → (b ≡ p → stops ≡ false)
      → waiting_at t p b ≡ left p b ++ (m ∷ [])
  pub silent : stops ≡ true → (a : ℕ) → waiting_at t a p ≡ []
  -- what the lists do not tell
  pub short : (a b : ℕ) → (channel_at s a b).len ≤ 8 → (channel_at t a b).len ≤ 8

-- ---- trust
-- every mark is as it was
abbrev pub SameTrust : System → System → Type 0
SameTrust s t = (a b : ℕ) → may_trust t a b ≡ may_trust s a b

-- process p, whose view was the one in s, is told view v: what becomes of each mark (a, b)
pub record Doubts (s t : System) (p v : ℕ) : Type 0 where
  -- b leaves p's view: a suspicion begins, and the mark says whether b's view lacks p at that moment
  pub begins : (b : ℕ) → has (variables_at s p).view b ≡ true → has v b ≡ false → may_trust t p b ≡ not (has (variables_at s b).view p)
  -- p's new view lacks a
  pub turns : (a : ℕ) → 1 ≤ a → a ≤ s.n → has v a ≡ false → may_trust t a p ≡ true
  -- every other
  pub rest : (a b : ℕ) → (a ≡ p → has (variables_at s p).view b ≡ true → has v b ≡ false → ⊥)
      → (b ≡ p → 1 ≤ a → a ≤ s.n → has v a ≡ false → ⊥)
      → may_trust t a b ≡ may_trust s a b

-- ---- Figure 3, transition by transition
-- local?(v_p), and p = min(v_p)
pub record Proposes (s t : System) (p : ProcessId) (v : ℕ) : Type 0 where
  pub acts : Acts s p.0
  pub inside : within s.n v ≡ true
  pub own : has v p.0 ≡ true
  -- p may trust again whom the view brings back
  pub trusted : (b : ℕ) → has v b ≡ true → has (variables_at s p.0).view b ≡ false → may_trust s p.0 b ≡ true
  pub doubts : Doubts s t p.0 v
  pub least : (least_of v).0 ≡ p.0
  pub below : (variables_at s p.0).propout.0 < 32
  pub stops : Bool
  pub effect : Effect s t (waiting_at s) p.0 (assigning (proposing (variables_at s p.0) v ((variables_at s p.0).propout.0 + 1))) stops
      v (Propose v (index ((variables_at s p.0).propout.0 + 1)))

-- local?(v_p), and not p = min(v_p)
pub record Follows (s t : System) (p : ProcessId) (v : ℕ) : Type 0 where
  pub acts : Acts s p.0
  pub inside : within s.n v ≡ true
  pub own : has v p.0 ≡ true
  -- p may trust again whom the view brings back
  pub trusted : (b : ℕ) → has v b ≡ true → has (variables_at s p.0).view b ≡ false → may_trust s p.0 b ≡ true
  pub doubts : Doubts s t p.0 v
  pub other : (least_of v).0 ≡ p.0 → ⊥
  pub effect : Effect s t (waiting_at s) p.0 (assigning (with_view (variables_at s p.0) v)) false 0 no_message

-- R_q?Propose
pub record Records (s t : System) (q p : ProcessId) : Type 0 where
  pub acts : Acts s p.0
  pub partner : Known s q.0
  pub view : ℕ
  pub index : GroupIndex
  pub left : ℕ → ℕ → List Message
  pub taken : Taken s q.0 p.0 (Propose view index) left
  pub sound : SoundProposal s.n q.0 p.0 view index.0
  pub trust : SameTrust s t
  pub effect : Effect s t left p.0 (recording (variables_at s p.0) q (Some (proposal_at view index))) false 0 no_message

-- R_q?Retry, and PropOut = old ∧ p = min(v_p)
pub record Reproposes (s t : System) (q p : ProcessId) : Type 0 where
  pub acts : Acts s p.0
  pub partner : Known s q.0
  pub old : GroupIndex
  pub new : GroupIndex
  pub left : ℕ → ℕ → List Message
  pub taken : Taken s q.0 p.0 (Retry old new) left
  pub present : (variables_at s p.0).propout.0 ≡ old.0
  pub least : (least_of (variables_at s p.0).view).0 ≡ p.0
  pub past : 2 ≤ old.0
  pub rises : old.0 < new.0
  pub below : new.0 ≤ 32
  pub proposed : has (variables_at s p.0).proposal p.0 ≡ true
  pub stops : Bool
  pub trust : SameTrust s t
  pub effect : Effect s t left p.0 (assigning (reproposing (variables_at s p.0) new.0)) stops
      (variables_at s p.0).view (Propose (variables_at s p.0).view new)

-- R_q?Retry, else
pub record Ignores (s t : System) (q p : ProcessId) : Type 0 where
  pub acts : Acts s p.0
  pub partner : Known s q.0
  pub old : GroupIndex
  pub new : GroupIndex
  pub left : ℕ → ℕ → List Message
  pub taken : Taken s q.0 p.0 (Retry old new) left
  pub idle : (variables_at s p.0).propout.0 ≡ old.0 → (least_of (variables_at s p.0).view).0 ≡ p.0 → ⊥
  pub trust : SameTrust s t
  pub effect : Effect s t left p.0 (assigning (variables_at s p.0)) false 0 no_message

-- R_q?Acc: ack once q is marked, or is not
pub data Marking (x : Variables) (q i acks : ℕ) : Type 0 where
  present : x.propout.0 ≡ i → acks ≡ with x.acks q → Marking x q i acks
  stale : (x.propout.0 ≡ i → ⊥) → acks ≡ x.acks → Marking x q i acks

-- R_q?Acc, and not ∀ q in v*: ack[q] = 1, or v* is empty
pub record Marks (s t : System) (q p : ProcessId) : Type 0 where
  pub acts : Acts s p.0
  pub partner : Known s q.0
  pub index : GroupIndex
  pub left : ℕ → ℕ → List Message
  pub taken : Taken s q.0 p.0 (Acc index) left
  pub past : 2 ≤ index.0
  pub acks : ℕ
  pub marking : Marking (variables_at s p.0) q.0 index.0 acks
  pub partial : ((variables_at s p.0).proposal ≡ 0 → ⊥) → subset (variables_at s p.0).proposal acks ≡ false
  pub trust : SameTrust s t
  pub effect : Effect s t left p.0 (assigning (with_acks (variables_at s p.0) acks)) false 0 no_message

-- R_q?Acc, and ∀ q in v*: ack[q] = 1
pub record Commits (s t : System) (q p : ProcessId) : Type 0 where
  pub acts : Acts s p.0
  pub partner : Known s q.0
  pub index : GroupIndex
  pub left : ℕ → ℕ → List Message
  pub taken : Taken s q.0 p.0 (Acc index) left
  pub past : 2 ≤ index.0
  pub acks : ℕ
  pub marking : Marking (variables_at s p.0) q.0 index.0 acks
  pub proposed : has (variables_at s p.0).proposal p.0 ≡ true
  pub complete : subset (variables_at s p.0).proposal acks ≡ true
  pub stops : Bool
  pub trust : SameTrust s t
  pub effect : Effect s t left p.0 (assigning (with_acks (variables_at s p.0) 0)) stops
      (variables_at s p.0).proposal (Commit (variables_at s p.0).proposal (variables_at s p.0).propout)

-- R_q?Commit
pub record Enters (s t : System) (q p : ProcessId) : Type 0 where
  pub acts : Acts s p.0
  pub partner : Known s q.0
  pub view : ℕ
  pub index : GroupIndex
  pub left : ℕ → ℕ → List Message
  pub taken : Taken s q.0 p.0 (Commit view index) left
  pub sound : SoundProposal s.n q.0 p.0 view index.0
  pub trust : SameTrust s t
  pub effect : Effect s t left p.0 (entering (variables_at s p.0) index.0 view) false 0 no_message

-- Prop[q] ∧ (v[q] = v_p), and PropIn[q] ≥ Next
pub record Accepts (s t : System) (p q : ProcessId) : Type 0 where
  pub acts : Acts s p.0
  pub partner : Known s q.0
  pub view : ℕ
  pub index : GroupIndex
  pub recorded : pending_at (process_at s p.0) q.0 ≡ Some (proposal_at view index)
  pub sound : SoundProposal s.n q.0 p.0 view index.0
  pub same : view ≡ (variables_at s p.0).view
  pub free : (variables_at s p.0).next.0 ≤ index.0
  pub stops : Bool
  pub trust : SameTrust s t
  pub effect : Effect s t (waiting_at s) p.0 (recording (with_next (variables_at s p.0) (index.0 + 1)) q None) stops (with 0 q.0) (Acc index)

-- Prop[q] ∧ (v[q] = v_p), and PropIn[q] < Next
pub record Declines (s t : System) (p q : ProcessId) : Type 0 where
  pub acts : Acts s p.0
  pub partner : Known s q.0
  pub view : ℕ
  pub index : GroupIndex
  pub recorded : pending_at (process_at s p.0) q.0 ≡ Some (proposal_at view index)
  pub sound : SoundProposal s.n q.0 p.0 view index.0
  pub same : view ≡ (variables_at s p.0).view
  pub late : index.0 < (variables_at s p.0).next.0
  pub stops : Bool
  pub trust : SameTrust s t
  pub effect : Effect s t (waiting_at s) p.0 (recording (variables_at s p.0) q None) stops (with 0 q.0) (Retry index (variables_at s p.0).next)

-- the process stops
pub record Crashes (s t : System) (p : ProcessId) : Type 0 where
  pub acts : Acts s p.0
  pub trust : SameTrust s t
  pub effect : Effect s t (waiting_at s) p.0 (assigning (variables_at s p.0)) true 0 no_message

pub data Transition (s t : System) : Action → Type 0 where
  proposes : {p : ProcessId} {v : ℕ} → Proposes s t p v → Transition s t (Report p v)
  follows : {p : ProcessId} {v : ℕ} → Follows s t p v → Transition s t (Report p v)
  records : {q p : ProcessId} → Records s t q p → Transition s t (Receive q p)
  reproposes : {q p : ProcessId} → Reproposes s t q p → Transition s t (Receive q p)
  ignores : {q p : ProcessId} → Ignores s t q p → Transition s t (Receive q p)
  marks : {q p : ProcessId} → Marks s t q p → Transition s t (Receive q p)
  commits : {q p : ProcessId} → Commits s t q p → Transition s t (Receive q p)
  enters : {q p : ProcessId} → Enters s t q p → Transition s t (Receive q p)
  accepts : {p q : ProcessId} → Accepts s t p q → Transition s t (Respond p q)
  declines : {p q : ProcessId} → Declines s t p q → Transition s t (Respond p q)
  crashes : {p : ProcessId} → Crashes s t p → Transition s t (Crash p)

-- ---- what every transition has
pub record Outline (s t : System) (p : ℕ) : Type 0 where
  pub acts : Acts s p
  pub left : ℕ → ℕ → List Message
  pub change : Change
  pub stops : Bool
  pub to : ℕ
  pub message : Message
  pub effect : Effect s t left p change stops to message
  pub calm : change.variables.crashed ≡ (variables_at s p).crashed

unfoldable pub outlined : {s t : System} {p : ℕ} {left : ℕ → ℕ → List Message} {c : Change} {stops : Bool} {to : ℕ} {m : Message} → Acts s p → Effect s t left p c stops to m
    → c.variables.crashed ≡ (variables_at s p).crashed
    → Outline s t p
outlined {left} {c} {stops} {to} {m} acts effect calm =
    record { acts = acts; left = left; change = c; stops = stops; to = to; message = m; effect = effect; calm = calm }

unfoldable pub outline : {s t : System} {o : Action} → Transition s t o → Outline s t (scope_of o).actor.0
unfolding scope_of
outline (proposes r) = outlined r.acts r.effect refl
outline (follows r) = outlined r.acts r.effect refl
outline (records r) = outlined r.acts r.effect refl
outline (reproposes r) = outlined r.acts r.effect refl
outline (ignores r) = outlined r.acts r.effect refl
outline (marks r) = outlined r.acts r.effect refl
outline (commits r) = outlined r.acts r.effect refl
outline (enters r) = outlined r.acts r.effect refl
outline (accepts r) = outlined r.acts r.effect refl
outline (declines r) = outlined r.acts r.effect refl
outline (crashes r) = outlined r.acts r.effect refl

-- those that a transition tells
abbrev pub told_in : {s t : System} {o : Action} → Transition s t o → ℕ
told_in k = (outline k).effect.told

-- a transition that tells just these
pub record Reaches (s t : System) (o : Action) (reach : ℕ) : Type 0 where
  pub transition : Transition s t o
  pub told : told_in transition ≡ reach

pub tells : {s t : System} {o : Action} {reach : ℕ} (k : Transition s t o) → told_in k ≡ reach → Reaches s t o reach
tells k e = record { transition = k; told = e }
