-- Document 01: "A table is sound when n and all fields are in the ranges above; every view names only units 1 to n; position 1
-- holds a non-empty view at each unit; each local view contains its own unit; the last proposed view is empty if PropOut is 1
-- and otherwise contains its own unit; every line towards a stopped unit is empty. Messages and recorded proposals must be
-- sound too". What lies past n, or past a channel's length, is no part of the table.
use Rattle.std.specs.Prelude.{ℕ, ◌+◌, Bool, true, ◌&&◌, ◌||◌, not, List, [], ◌∷◌, None, Some, leb, eqb}
use Rattle.view.specs.Logic.{pick, all_up_to}
use Rattle.view.specs.View.{has, within}
use Rattle.channel.specs.declared.Message.{Message}
use Rattle.channel.specs.declared.Message.TheVariants.{Propose, Retry, Acc, Commit}
use Rattle.channel.specs.declared.Channel.{Channel}
use Rattle.channel.specs.Channel.{waiting}
use Rattle.system.specs.declared.History.{History}
use Rattle.system.specs.declared.Variables.{Variables}
use Rattle.system.specs.declared.Process.{Process}
use Rattle.system.specs.declared.System.{System}
use Rattle.system.specs.Process.{Pending, entry_at, pending_at}
use Rattle.system.specs.System.{process_at, variables_at, channel_at}

abbrev pub in_range : ℕ → ℕ → ℕ → Bool
in_range low high k = leb low k && leb k high

unfoldable pub every : (Message → Bool) → List Message → Bool
every f [] = true
every f (m ∷ ms) = f m && every f ms

-- "a position from 2 to 32 and a view with both sender and receiver in it", a view of processes 1 to n
unfoldable pub sound_proposal : ℕ → ℕ → ℕ → ℕ → ℕ → Bool
sound_proposal n q p v i = in_range 2 32 i && within n v && has v q && has v p

-- a message from q to p. "Propose and Commit carry a position from 2 to 32 and a view with both sender and receiver in it ..;
-- Acc carries a position from 2 to 32; Retry carries old from 2 to 32 and new from old + 1 to 33."
unfoldable pub sound_message : ℕ → ℕ → ℕ → Message → Bool
sound_message n q p (Propose v i) = sound_proposal n q p v i.0
sound_message n q p (Retry old new) = in_range 2 32 old.0 && in_range (old.0 + 1) 33 new.0
sound_message n q p (Acc i) = in_range 2 32 i.0
sound_message n q p (Commit v i) = sound_proposal n q p v i.0

-- ".. and so does a recorded proposal": what process p has recorded from process q
unfoldable pub sound_pending : ℕ → ℕ → ℕ → Pending → Bool
sound_pending n q p None = true
sound_pending n q p (Some r) = sound_proposal n q p r.view r.index.0

-- the channel from q to p: "It holds 0 to 8 messages"; "every line towards a stopped unit is empty"
unfoldable pub sound_channel : ℕ → Bool → ℕ → ℕ → Channel → Bool
sound_channel n crashed q p c =
    leb c.len 8 && (not crashed || eqb c.len 0) && every (sound_message n q p) (waiting c)

-- "every view names only units 1 to n; position 1 holds a non-empty view"
unfoldable pub sound_history : ℕ → History → Bool
sound_history n h = all_up_to 32 (λ i. within n (entry_at h i)) && not (eqb (entry_at h 1) 0)

-- "Next (2 to 33); PropOut (1 to 32)"; "every view names only units 1 to n", the set of those that acknowledged too;
-- "each local view contains its own unit; the last proposed view is empty if PropOut is 1 and otherwise contains its own unit"
unfoldable pub sound_variables : ℕ → ℕ → Variables → Bool
sound_variables n p x =
    in_range 2 33 x.next.0
    && in_range 1 32 x.propout.0
    && within n x.view
    && within n x.proposal
    && within n x.acks
    && has x.view p
    && pick (eqb x.propout.0 1) (eqb x.proposal 0) (has x.proposal p)

unfoldable pub sound_process : ℕ → ℕ → Process → Bool
sound_process n p x = sound_variables n p x.variables && sound_history n x.history && all_up_to n (λ q. sound_pending n q p (pending_at x q))

unfoldable pub sound_process_at : System → ℕ → Bool
sound_process_at s p = sound_process s.n p (process_at s p)

unfoldable pub sound_channel_at : System → ℕ → ℕ → Bool
sound_channel_at s q p = sound_channel s.n (variables_at s p).crashed q p (channel_at s q p)

-- the channels that process q sends on
unfoldable pub sound_channels_from : System → ℕ → Bool
sound_channels_from s q = all_up_to s.n (sound_channel_at s q)

-- what is asked of the processes alone, and of the channels
unfoldable pub sound_processes : System → Bool
sound_processes s = in_range 1 8 s.n && all_up_to s.n (sound_process_at s)

unfoldable pub sound_channels : System → Bool
sound_channels s = all_up_to s.n (sound_channels_from s)

unfoldable pub sound_system : System → Bool
sound_system s = sound_processes s && sound_channels s
