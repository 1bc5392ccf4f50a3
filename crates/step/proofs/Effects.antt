-- What follows from an effect, whatever the step: of each process, and of each message on each channel.
use Prim.Native.Nat.{ℕ, ◌≤◌}
use mathlib.Core.Path.{◌≡◌, sym, subst}
use mathlib.Core.Bool.{Bool, true, false}
use mathlib.Core.List.{List}
use native.Mathlib.Omega.{arith}
use Rattle.std.specs.Prelude.{None}
use Rattle.view.specs.View.{has}
use Rattle.view.proofs.Laws.{Each, each_end, each_put}
use Rattle.channel.specs.declared.Message.{Message}
use Rattle.system.specs.declared.Process.{Process}
use Rattle.system.specs.declared.System.{System}
use Rattle.system.specs.Process.{entry_at, pending_at, Pending}
use Rattle.system.specs.System.{process_at, variables_at, entry_in}
use Rattle.system.proofs.Histories as histories
use Rattle.plan.specs.declared.Change.{Change}
use Rattle.step.proofs.Cases.{waiting_at, Taken, afterwards, Effect}

-- ---- what is left of the messages
-- those left were all there
abbrev pub Part : System → (ℕ → ℕ → List Message) → Type 1
Part s left = (P : Message → Type 0) (a b : ℕ) → Each P (waiting_at s a b) → Each P (left a b)

pub all_left : (s : System) → Part s (waiting_at s)
all_left s P a b e = e

pub taken_left : {s : System} {q p : ℕ} {m : Message} {left : ℕ → ℕ → List Message} → Taken s q p m left → Part s left
taken_left {s} {q} {p} {m} {left} k P a b e = grind arith

module _ {s t : System} {left : ℕ → ℕ → List Message} {p : ℕ} {c : Change} {stops : Bool} {to : ℕ} {m : Message} (f : Effect s t left p c stops to m) where
  -- ---- each process: the one that acted, and the others as they were
  pub each_process_but : (P : ℕ → Process → Type 0) → P p (afterwards (process_at s p) c stops) → ((k : ℕ) → (k ≡ p → ⊥) → P k (process_at s k))
      → (k : ℕ)
      → P k (process_at t k)
  each_process_but P new old k = grind arith

  pub each_process : (P : ℕ → Process → Type 0) → P p (afterwards (process_at s p) c stops) → ((k : ℕ) → P k (process_at s k)) → (k : ℕ) → P k (process_at t k)
  each_process P new old = each_process_but P new (λ k h. old k)

  -- ---- each entry: the one that the change puts in, and those that there were
  pub each_entry : (P : ℕ → ℕ → ℕ → Type 0) → (1 ≤ c.index.0 → P p c.index.0 c.entry) → ((k i : ℕ) → P k i (entry_in s k i)) → (k i : ℕ)
      → P k i (entry_in t k i)
  unfolding afterwards entry_in
  each_entry P new old =
      each_process (λ k y. (i : ℕ) → P k i (entry_at y.history i)) (histories.each_entry _ c.index.0 c.entry (P p) new (old p)) old

  pub entry_new : 1 ≤ c.index.0 → c.index.0 ≤ 32 → entry_in t p c.index.0 ≡ c.entry
  unfolding afterwards entry_in
  entry_new low high = grind (arith, histories.entry_same, histories.entry_long)

  -- ---- each message: those left, and m to those whom it is for
  pub each_on : (P : Message → Type 0) (a b : ℕ) → Each P (left a b) → (a ≡ p → has to b ≡ true → (variables_at s b).crashed ≡ false → P m)
      → Each P (waiting_at t a b)
  each_on P a b old new = grind (arith, each_end)

  pub each_message : (R : ℕ → ℕ → Message → Type 0) → ((a b : ℕ) → Each (R a b) (left a b))
      → ((b : ℕ) → has to b ≡ true → (variables_at s b).crashed ≡ false → R p b m)
      → (a b : ℕ)
      → Each (R a b) (waiting_at t a b)
  each_message R old new a b = each_on (R a b) a b (old a b) (λ e named live. subst (λ (i : ℕ). R i b m) (sym e) (new b named live))

-- ---- the process that acted: what it has recorded from each process
pub each_pending : (P : ℕ → Pending → Type 0) (x : Process) (c : Change) (stops : Bool) → (1 ≤ c.proposer.0 → P c.proposer.0 c.pending)
    → ((j : ℕ) → P j (pending_at x j))
    → (j : ℕ)
    → P j (pending_at (afterwards x c stops) j)
unfolding afterwards pending_at
each_pending P x c stops new old =
    each_put P x.pending c.proposer.0 c.pending None (λ l h. new l) old
