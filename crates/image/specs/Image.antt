-- The image of a system: 2,105 bytes, in which it is kept. One byte is n; eight processes of 62 bytes follow, then sixty-four channels
-- of 25 bytes, and eight sets of trust of one byte. docs/IMAGE.md has the layout as a table.
use Rattle.std.specs.Prelude.{ℕ, zero, suc, ◌+◌, ◌*◌, ◌≡◌, List, [], ◌∷◌, ◌++◌, eqb, leb, length, get_or, drop, None, Some}
use Rattle.view.specs.Logic.{pick}
use Rattle.channel.specs.declared.Message.{Message}
use Rattle.channel.specs.declared.Message.TheVariants.{Propose, Retry, Acc, Commit}
use Rattle.channel.specs.declared.Channel.{Channel}
use Rattle.system.specs.declared.History.{History}
use Rattle.system.specs.declared.Variables.{Variables}
use Rattle.system.specs.declared.Process.{Process}
use Rattle.system.specs.declared.System.{System}
use Rattle.system.specs.Process.{index, Pending, proposal_at}

-- ---- how many bytes each part has, and where it begins in the part that holds it
abbrev pub message_width : ℕ
message_width = 3

-- eight slots, and the length after them
abbrev pub length_place : ℕ
length_place = 8 * message_width

abbrev pub channel_width : ℕ
channel_width = length_place + 1

abbrev pub record_width : ℕ
record_width = 3

abbrev pub variables_width : ℕ
variables_width = 6

abbrev pub records_place : ℕ
records_place = variables_width

abbrev pub history_place : ℕ
history_place = records_place + 8 * record_width

abbrev pub process_width : ℕ
process_width = history_place + 32

abbrev pub processes_place : ℕ
processes_place = 1

abbrev pub channels_place : ℕ
channels_place = processes_place + 8 * process_width

abbrev pub trust_place : ℕ
trust_place = channels_place + 64 * channel_width

abbrev pub image_width : ℕ
image_width = trust_place + 8

-- ---- from a system to its image
-- the bytes of each part, one part after the other
unfoldable pub concatenated : {A : Type 0} → (A → List ℕ) → List A → List ℕ
concatenated f [] = []
concatenated f (x ∷ xs) = f x ++ concatenated f xs

unfoldable pub message_bytes : Message → List ℕ
message_bytes (Propose v i) = 0 ∷ v ∷ i.0 ∷ []
message_bytes (Retry old new) = 1 ∷ old.0 ∷ new.0 ∷ []
message_bytes (Acc i) = 2 ∷ i.0 ∷ 0 ∷ []
message_bytes (Commit v i) = 3 ∷ v ∷ i.0 ∷ []

unfoldable pub channel_bytes : Channel → List ℕ
channel_bytes c = concatenated message_bytes c.slots ++ (c.len ∷ [])

unfoldable pub pending_bytes : Pending → List ℕ
pending_bytes None = 0 ∷ 0 ∷ 0 ∷ []
pending_bytes (Some r) = 1 ∷ r.view ∷ r.index.0 ∷ []

unfoldable pub variables_bytes : Variables → List ℕ
variables_bytes x = pick x.crashed 1 0 ∷ x.view ∷ x.next.0 ∷ x.propout.0 ∷ x.proposal ∷ x.acks ∷ []

unfoldable pub process_bytes : Process → List ℕ
process_bytes x = variables_bytes x.variables ++ concatenated pending_bytes x.pending ++ x.history.entries

unfoldable pub encoded : System → List ℕ
encoded s = (s.n ∷ []) ++ concatenated process_bytes s.processes ++ concatenated channel_bytes s.channels ++ s.trust

-- ---- from an image to the system: every list of so many bytes is some system
-- n rows, one after the other, each of w bytes
unfoldable pub rows : {A : Type 0} → ℕ → ℕ → (List ℕ → A) → List ℕ → List A
rows zero w f b = []
rows (suc n) w f b = f b ∷ rows n w f (drop w b)

-- the byte at place k, counted from 0
abbrev pub byte : ℕ → List ℕ → ℕ
byte k b = get_or b k 0

-- a tag that stands for nothing is read as an Acc at index 0, which is not sound
unfoldable pub message_of : ℕ → ℕ → ℕ → Message
message_of tag x y =
    pick (eqb tag 0) (Propose x (index y))
    (pick (eqb tag 1) (Retry (index x) (index y))
    (pick (eqb tag 2) (Acc (index x))
    (pick (eqb tag 3) (Commit x (index y)) (Acc (index 0)))))

unfoldable pub slot_in : List ℕ → Message
slot_in b = message_of (byte 0 b) (byte 1 b) (byte 2 b)

unfoldable pub channel_in : List ℕ → Channel
channel_in b = record { slots = rows 8 message_width slot_in b; len = byte length_place b }

-- a tag that stands for nothing is read as a proposal at index 0, which is not sound
unfoldable pub pending_of : ℕ → ℕ → ℕ → Pending
pending_of tag x y = pick (eqb tag 0) None (pick (eqb tag 1) (Some (proposal_at x (index y))) (Some (proposal_at 0 (index 0))))

unfoldable pub record_in : List ℕ → Pending
record_in b = pending_of (byte 0 b) (byte 1 b) (byte 2 b)

unfoldable pub history_in : List ℕ → History
history_in b = record { entries = rows 32 1 (byte 0) b }

-- the first byte is 1 of a process that has crashed, and 0 of one that has not; with any other, Next is read as 0, which is not
-- sound
unfoldable pub variables_of : ℕ → ℕ → ℕ → ℕ → ℕ → ℕ → Variables
variables_of tag view next propout proposal acks =
    record {
      crashed = eqb tag 1;
      view = view;
      next = index (pick (leb tag 1) next 0);
      propout = index propout;
      proposal = proposal;
      acks = acks;
    }

unfoldable pub variables_in : List ℕ → Variables
variables_in b = variables_of (byte 0 b) (byte 1 b) (byte 2 b) (byte 3 b) (byte 4 b) (byte 5 b)

unfoldable pub process_in : List ℕ → Process
process_in b =
    record {
      variables = variables_in b;
      pending = rows 8 record_width record_in (drop records_place b);
      history = history_in (drop history_place b);
    }

unfoldable pub decoded : List ℕ → System
decoded b =
    record {
      n = byte 0 b;
      processes = rows 8 process_width process_in (drop processes_place b);
      channels = rows 64 channel_width channel_in (drop channels_place b);
      trust = rows 8 1 (byte 0) (drop trust_place b);
    }

-- bytes of another length hold no system: no process and no channel is read there, and none can be replaced
unfoldable pub no_system : System
no_system = record { n = 0; processes = []; channels = []; trust = [] }

-- the system that bytes hold
unfoldable pub system_in : List ℕ → System
system_in b = pick (eqb (length b) image_width) (decoded b) no_system

-- bytes b become bytes c, which hold system t; bytes of another length than an image's stay as they were
pub record Becomes (t : System) (b c : List ℕ) : Type 0 where
  pub system : system_in c ≡ t
  pub kept : (length b ≡ image_width → ⊥) → c ≡ b
