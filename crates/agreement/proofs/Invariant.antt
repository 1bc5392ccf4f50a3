-- What is so of every system that steps reach from a fresh one, with what has been accepted on the way. All of it is said of the
-- messages, records and entries that are there, so that those which disappear or are never sent cost nothing.
use Prim.Native.Nat.{ℕ, ◌≤◌, ◌<◌}
use mathlib.Core.Path.{◌≡◌}
use mathlib.Core.Bool.{true}
use mathlib.Core.List.{List}
use native.Mathlib.Omega.{arith}
use Rattle.std.specs.Prelude.{None, Some}
use Rattle.view.specs.View.{has, least_of}
use Rattle.view.proofs.Laws.{Each}
use Rattle.channel.specs.declared.Message.{Message}
use Rattle.channel.specs.declared.Message.TheVariants.{Propose, Retry, Acc, Commit}
use Rattle.system.specs.declared.Variables.{Variables}
use Rattle.system.specs.declared.System.{System}
use Rattle.system.specs.Process.{pending_at, Pending}
use Rattle.system.specs.System.{process_at, variables_at, entry_in}
use Rattle.step.proofs.Frames.{Shape}
use Rattle.step.proofs.Cases.{waiting_at}
use Rattle.agreement.specs.Accepted.{Acceptance, accepted}

-- a proposal (v, i) of a process whose variables are x: i is at most PropOut, and at PropOut the view is v*, unless v* is empty
pub record Proposed (x : Variables) (v i : ℕ) : Type 0 where
  pub bound : i ≤ x.propout.0
  pub same : i ≡ x.propout.0 → (x.proposal ≡ 0 → ⊥) → v ≡ x.proposal

-- an Acc of process u to a proposal of x at index i: at PropOut, u has accepted v* there, unless v* is empty
pub record Answered (acc : List Acceptance) (u : ℕ) (x : Variables) (i : ℕ) : Type 0 where
  pub bound : i ≤ x.propout.0
  pub same : i ≡ x.propout.0 → (x.proposal ≡ 0 → ⊥) → accepted acc u x.proposal i ≡ true

-- every process of the view has accepted it there
abbrev pub Agreed : List Acceptance → ℕ → ℕ → Type 0
Agreed acc v i = (u : ℕ) → has v u ≡ true → accepted acc u v i ≡ true

-- a message from q to p, where a process k has the variables at k
abbrev pub Honest : List Acceptance → (ℕ → Variables) → ℕ → ℕ → Message → Type 0
Honest acc at q p (Propose v i) = Proposed (at q) v i.0
Honest acc at q p (Retry old new) = Unit {0}
Honest acc at q p (Acc i) = Answered acc q (at p) i.0
Honest acc at q p (Commit v i) = Agreed acc v i.0

-- what a process has recorded from q
abbrev pub Recorded : (ℕ → Variables) → ℕ → Pending → Type 0
Recorded at q None = Unit {0}
Recorded at q (Some r) = Proposed (at q) r.view r.index.0

-- the variables x of process p
pub record Own (acc : List Acceptance) (p : ℕ) (x : Variables) : Type 0 where
  -- who is marked has accepted v* at PropOut
  pub marks : (u : ℕ) → (x.proposal ≡ 0 → ⊥) → has x.acks u ≡ true → accepted acc u x.proposal x.propout.0 ≡ true
  -- v* is the local view of a process that is the least of its local view
  pub leads : (x.proposal ≡ 0 → ⊥) → (least_of x.view).0 ≡ p → x.proposal ≡ x.view

-- an entry v of process p at index i: it names p, and all that it names have accepted it there
pub record Entered (acc : List Acceptance) (p i v : ℕ) : Type 0 where
  pub own : has v p ≡ true
  pub agreed : Agreed acc v i

pub record Reached (s : System) (acc : List Acceptance) : Type 0 where
  pub shape : Shape s
  -- who has accepted is past the index, is in the view, and has accepted no other view there
  pub passed : (u v i : ℕ) → accepted acc u v i ≡ true → i < (variables_at s u).next.0
  pub member : (u v i : ℕ) → accepted acc u v i ≡ true → has v u ≡ true
  pub one_view : (u v w i : ℕ) → accepted acc u v i ≡ true → accepted acc u w i ≡ true → v ≡ w
  -- what each process holds, and what waits
  pub own : (p : ℕ) → Own acc p (variables_at s p)
  pub recorded : (u q : ℕ) → Recorded (variables_at s) q (pending_at (process_at s u) q)
  pub messages : (q p : ℕ) → Each (Honest acc (variables_at s) q p) (waiting_at s q p)
  pub entries : (p i : ℕ) → 2 ≤ i → (entry_in s p i ≡ 0 → ⊥) → Entered acc p i (entry_in s p i)

-- ---- more is accepted, and the variables of a process are later ones
pub record Grown (old new : List Acceptance) : Type 0 where
  pub still : (u v i : ℕ) → accepted old u v i ≡ true → accepted new u v i ≡ true

-- PropOut has risen, or v* is the same unless it is empty
pub record Later (x y : Variables) : Type 0 where
  pub up : x.propout.0 ≤ y.propout.0
  pub same : y.propout.0 ≡ x.propout.0 → (y.proposal ≡ 0 → ⊥) → y.proposal ≡ x.proposal

pub later_equal : (x y : Variables) → y.propout ≡ x.propout → y.proposal ≡ x.proposal → Later x y
later_equal x y o v = record { up = rw o (omega arith); same = λ e h. v }

pub later_risen : (x y : Variables) → x.propout.0 < y.propout.0 → Later x y
later_risen x y h = record { up = omega arith; same = λ e. absurd (omega arith) }

pub proposed_later : {x y : Variables} {v i : ℕ} → Later x y → Proposed x v i → Proposed y v i
proposed_later {x} {y} l h = grind arith

pub answered_later : {old new : List Acceptance} {u : ℕ} {x y : Variables} {i : ℕ} → Grown old new → Later x y → Answered old u x i → Answered new u y i
answered_later {old} {new} {u} {x} {y} {i} g l h = grind arith

module _ {old new : List Acceptance} (g : Grown old new) where
  pub own_later : {p : ℕ} {x : Variables} → Own old p x → Own new p x
  own_later {p} {x} o = grind arith

  pub entered_later : {p i v : ℕ} → Entered old p i v → Entered new p i v
  entered_later {p} {i} {v} e = grind arith

  pub honest_later : {at then : ℕ → Variables} → ((k : ℕ) → Later (at k) (then k)) → (q p : ℕ) (m : Message) → Honest old at q p m → Honest new then q p m
  honest_later l q p (Propose v i) h = proposed_later (l q) h
  honest_later l q p (Retry o n) h = tt
  honest_later l q p (Acc i) h = answered_later g (l p) h
  honest_later l q p (Commit v i) h = λ u k. g.still u v i.0 (h u k)

pub recorded_later : {at then : ℕ → Variables} → ((k : ℕ) → Later (at k) (then k)) → (q : ℕ) (x : Pending) → Recorded at q x → Recorded then q x
recorded_later l q None h = tt
recorded_later l q (Some r) h = proposed_later (l q) h
