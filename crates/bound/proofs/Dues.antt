-- How many takes and answers are still due between two processes: a number of the system alone, for each ordered pair. A proposal of
-- a that b may still take is worth four: that take, the answer, the take of the answer, and the take of a Commit. The first three
-- are owed between a and b. The fourth is owed to b by what a itself has of the proposal: the message to itself, the record, the
-- answer, and then the mark, which a broadcast of Commits uses up.
use Prim.Native.Nat.{ℕ, ◌+◌, ◌*◌, ◌≤◌}
use Rattle.channel.specs.declared.Message.{Message}
use Rattle.channel.specs.declared.Message.TheVariants.{Propose, Retry, Acc, Commit}
use Rattle.system.specs.declared.System.{System}
use Rattle.step.proofs.Cases.{waiting_at}
use Rattle.step.proofs.Weights.{count}
use Rattle.step.proofs.Stakes.{selfward, held, ahead, stake, Flows}

-- ---- messages, by weight
-- on the channel from the proposer: a proposal, which is taken, answered, and its answer taken; and a Commit
unfoldable pub outward : Message → ℕ
outward (Propose v i) = 3
outward (Retry old new) = 0
outward (Acc i) = 0
outward (Commit v i) = 1

-- on the channel to the proposer: an answer
unfoldable pub inward : Message → ℕ
inward (Propose v i) = 0
inward (Retry old new) = 1
inward (Acc i) = 1
inward (Commit v i) = 0

-- what is due between the proposer a and process b
unfoldable pub due : System → ℕ → ℕ → ℕ
due s a b = 4 * ahead s a + count outward (waiting_at s a b) + 2 * held s a b + count inward (waiting_at s b a) + stake s a

-- ---- the channels between a and b: what is taken off each, and what is put on
pub record Flow (s t : System) (off on : (Message → ℕ) → ℕ → ℕ → ℕ) (a b : ℕ) : Type 0 where
  pub out : count outward (waiting_at t a b) + off outward a b ≤ count outward (waiting_at s a b) + on outward a b
  pub back : count inward (waiting_at t b a) + off inward b a ≤ count inward (waiting_at s b a) + on inward b a
  pub self : count selfward (waiting_at t a a) + off selfward a a ≤ count selfward (waiting_at s a a) + on selfward a a

pub between : {s t : System} {off on : (Message → ℕ) → ℕ → ℕ → ℕ} → Flows s t off on → (a b : ℕ) → Flow s t off on a b
between f a b = record { out = f.on_channel outward a b; back = f.on_channel inward b a; self = f.on_channel selfward a a }
