-- The arrays of a system that is a program's value have the lengths that the program's types say.
use mathlib.Core.Path.{◌≡◌}
use mathlib.Core.List.{List, [], ◌∷◌}
use denote.Array.{each}
use denote.Laws.{Is}
use denote.RattleType.{RattleType}
use denote.Shadow.{shadow}
use lib.ListN.{length}
use mir.Val.{Val}
use Rattle.view.proofs.Laws.{Each, long}
use Rattle.channel.specs.declared.Channel.{Channel}
use Rattle.channel.specs.contracts.Channel as channel
use Rattle.system.specs.declared.Process.{Process}
use Rattle.system.specs.declared.System.{System}
use Rattle.system.specs.contracts.Process as process
use Rattle.system.specs.contracts.System as system

pub record ProcessLengths (x : Process) : Type 0 where
  pub pending : length x.pending ≡ 8
  pub entries : length x.history.entries ≡ 32

pub record ChannelLengths (c : Channel) : Type 0 where
  pub slots : length c.slots ≡ 8

pub record Lengths (s : System) : Type 0 where
  pub processes : length s.processes ≡ 8
  pub channels : length s.channels ≡ 64
  pub trust : length s.trust ≡ 8
  pub each_process : Each ProcessLengths s.processes
  pub each_channel : Each ChannelLengths s.channels

-- ---- a program's value: what the checker knows of it is its relation to machine values
each_value : (R : RattleType) (P : R.Denot → Type 0) → ((x : R.Denot) (vs : List Val) → Is R x vs → P x) → (l : List R.Denot) (us : List Val)
    → shadow (each R.Denot R.own_val l us) → Each P l
each_value R P h [] us p = tt
each_value R P h (x ∷ l) [] p = absurd p
each_value R P h (x ∷ l) (u ∷ us) p = (h x (u ∷ []) p.0, each_value R P h l us p.1)

process_value : (x : Process) (vs : List Val) → Is process.the_row x vs → ProcessLengths x
process_value x vs p = record { pending = search long; entries = search long }

channel_value : (c : Channel) (vs : List Val) → Is channel.the_row c vs → ChannelLengths c
channel_value c vs p = record { slots = search long }

-- of the first parameter s a proof has this relation at `c.well_formed.0`
pub value_lengths : (s : System) (vs : List Val) → Is system.the_row s vs → Lengths s
value_lengths s vs p =
    record {
      processes = search long;
      channels = search long;
      trust = search long;
      each_process = each_value process.the_row ProcessLengths process_value s.processes p.1.1.1.0.0 p.1.1.1.0.1.1;
      each_channel = each_value channel.the_row ChannelLengths channel_value s.channels p.1.1.1.1.0.0 p.1.1.1.1.0.1.1;
    }
