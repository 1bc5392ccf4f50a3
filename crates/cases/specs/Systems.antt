-- Systems to hand over: a fresh one with some parts replaced.
use Rattle.std.specs.Prelude.{ℕ, List, [], ◌∷◌, Some}
use Rattle.view.specs.Logic.{put}
use Rattle.channel.specs.declared.Message.{Message}
use Rattle.channel.specs.declared.Channel.{Channel}
use Rattle.channel.specs.Channel.{empty_channel, pushed}
use Rattle.system.specs.declared.System.{System}
use Rattle.system.specs.Process.{index, assigned, as_crashed, with_entry, with_pending, with_variables, with_history, proposal_at}
use Rattle.system.specs.System.{process_at, variables_at, with_process, with_channel, with_trust}
use Rattle.system.specs.Fresh.{fresh_system}

abbrev pub one : System
one = fresh_system 1

abbrev pub two : System
two = fresh_system 2

-- process p has this local view, Next, PropOut, last proposed view and acknowledgements
unfoldable pub with_values : System → ℕ → ℕ → ℕ → ℕ → ℕ → ℕ → System
with_values s p view next propout proposal acks =
    with_process s p
    (with_variables (process_at s p) (assigned (variables_at s p) view (index next) (index propout) proposal acks))

-- process p may trust these again
unfoldable pub with_trust_of : System → ℕ → ℕ → System
with_trust_of s p set = with_trust s (put s.trust p set)

-- process p has stopped
unfoldable pub with_stop : System → ℕ → System
with_stop s p = with_process s p (with_variables (process_at s p) (as_crashed (variables_at s p)))

-- process p has recorded from process q a proposal of view v at index i
unfoldable pub with_record : System → ℕ → ℕ → ℕ → ℕ → System
with_record s p q v i = with_process s p (with_pending (process_at s p) q (Some (proposal_at v (index i))))

-- process p has view v at index i
unfoldable pub with_written : System → ℕ → ℕ → ℕ → System
with_written s p i v = with_process s p (with_history (process_at s p) (with_entry (process_at s p).history i v))

-- the messages put on a channel one after the other
unfoldable pub loaded : Channel → List Message → Channel
loaded c [] = c
loaded c (m ∷ ms) = loaded (pushed c m) ms

-- these messages, oldest first, wait on the channel from q to p
unfoldable pub with_messages : System → ℕ → ℕ → List Message → System
with_messages s q p ms = with_channel s q p (loaded empty_channel ms)

-- one process by itself, with the local view {1} and Next 2: its PropOut, its last proposed view, its marks, and the messages,
-- oldest first, that wait on its channel to itself
unfoldable pub lone : ℕ → ℕ → ℕ → List Message → System
lone propout proposal acks ms = with_messages (with_values one 1 1 2 propout proposal acks) 1 1 ms
