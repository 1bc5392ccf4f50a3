-- Document 01's table, called the system here: n processes and, between every ordered pair of them, one channel.
use Rattle.std.specs.Prelude.{ℕ, ◌+◌, ◌-◌, ◌*◌, Bool, ◌&&◌, ◌||◌, not, List, None, replicate}
use Rattle.view.specs.Logic.{pick, all_up_to, each_up_to, at, put, is_one_of}
use Rattle.view.specs.View.{has, switched}
use Rattle.channel.specs.declared.Message.{Message}
use Rattle.channel.specs.declared.Channel.{Channel}
use Rattle.channel.specs.Channel.{empty_channel, has_room, pushed}
use Rattle.system.specs.declared.Variables.{Variables}
use Rattle.system.specs.declared.Process.{Process}
use Rattle.system.specs.declared.System.{System}
use Rattle.system.specs.Process.{no_variables, entry_at, no_entries}

-- what is read where there is no process of that number
unfoldable pub no_process : Process
no_process = record { variables = no_variables; pending = replicate 8 None; history = no_entries }

unfoldable pub process_at : System → ℕ → Process
process_at s p = at s.processes p no_process

abbrev pub variables_at : System → ℕ → Variables
variables_at s p = (process_at s p).variables

-- the entry of process p at index i
unfoldable pub entry_in : System → ℕ → ℕ → ℕ
entry_in s p i = entry_at (process_at s p).history i

unfoldable pub with_process : System → ℕ → Process → System
with_process s p x = record { n = s.n; processes = put s.processes p x; channels = s.channels; trust = s.trust }

-- which of the sixty-four channels runs from process q to process p, counted from 1; 0 where there is none
unfoldable pub channel_number : ℕ → ℕ → ℕ
channel_number q p = pick (is_one_of 8 q && is_one_of 8 p) (8 * (q - 1) + p) 0

-- the channel from process q to process p
unfoldable pub channel_at : System → ℕ → ℕ → Channel
channel_at s q p = at s.channels (channel_number q p) empty_channel

unfoldable pub with_channel : System → ℕ → ℕ → Channel → System
with_channel s q p c =
    record { n = s.n; processes = s.processes; channels = put s.channels (channel_number q p) c; trust = s.trust }

-- ---- trust
-- S-5: "The table keeps one mark per ordered pair": the processes that process p may trust again, those q for which the mark (p, q) is on
unfoldable pub trust_at : System → ℕ → ℕ
trust_at s p = at s.trust p 0

abbrev pub may_trust : System → ℕ → ℕ → Bool
may_trust s p q = has (trust_at s p) q

unfoldable pub with_trust : System → List ℕ → System
with_trust s l = record { n = s.n; processes = s.processes; channels = s.channels; trust = l }

-- the sets of all processes, the mark (p, q) being on or off as the test says
unfoldable pub trusting : List ℕ → ℕ → ℕ → Bool → List ℕ
trusting l p q on = put l p (switched (at l p 0) q on)

-- ---- messages

-- one message from q to p: "A message sent to a stopped unit vanishes and needs no room."
unfoldable pub sent : System → ℕ → ℕ → Message → System
sent s q p m = pick (variables_at s p).crashed s (with_channel s q p (pushed (channel_at s q p) m))

unfoldable pub sent_if_named : ℕ → ℕ → Message → ℕ → System → System
sent_if_named q v m p s = pick (has v p) (sent s q p m) s

-- one message from q to every process that the view names, in rising order
unfoldable pub broadcasted : System → ℕ → ℕ → Message → System
broadcasted s q v m = each_up_to 8 (sent_if_named q v m) s

-- process p is not named, or takes a message from q: it has crashed, or the channel has room
unfoldable pub takes_if_named : System → ℕ → ℕ → ℕ → Bool
takes_if_named s q v p = not (has v p) || ((variables_at s p).crashed || has_room (channel_at s q p))

-- a broadcast finds room
unfoldable pub room_for : System → ℕ → ℕ → Bool
room_for s q v = all_up_to 8 (takes_if_named s q v)
