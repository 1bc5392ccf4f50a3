-- What is so of each process and of each channel after one of them is replaced, and that a system keeps its shape: its arrays have
-- the lengths that the program's types say.
use Prim.Native.Nat.{ℕ, ◌≤◌}
use mathlib.Core.Path.{◌≡◌, refl, ◌∙◌}
use mathlib.Core.Bool.{true, ◌&&◌}
use native.Mathlib.Omega.{arith}
use lib.ListN.{length}
use Rattle.channel.specs.Channel.{empty_channel}
use Rattle.view.specs.Logic.{is_one_of, put}
use Rattle.view.proofs.Laws.{at_put_same, at_put_other, length-put}
use Rattle.channel.specs.declared.Channel.{Channel}
use Rattle.system.specs.declared.Process.{Process}
use Rattle.system.specs.declared.System.{System}
use Rattle.system.specs.System.{no_process, process_at, with_process, channel_number, channel_at, with_channel}
use Rattle.system.proofs.Laws.{number_in, same_ends}

pub record Shape (s : System) : Type 0 where
  pub processes : length s.processes ≡ 8
  pub channels : length s.channels ≡ 64
  pub slots : (q p : ℕ) → length (channel_at s q p).slots ≡ 8
  pub pending : (p : ℕ) → length (process_at s p).pending ≡ 8
  pub entries : (p : ℕ) → length (process_at s p).history.entries ≡ 32
  pub trust : length s.trust ≡ 8

-- ---- a process is replaced: the channels stay
pub channels_stay : (s : System) (p : ℕ) (x : Process) (a b : ℕ) → channel_at (with_process s p x) a b ≡ channel_at s a b
unfolding channel_at with_process
channels_stay s p x a b = refl

-- one of the numbers 1 to 8
pub record Numbered (p : ℕ) : Type 0 where
  pub low : 1 ≤ p
  pub high : p ≤ 8

module _ (s : System) (shape : Shape s) (p : ℕ) (number : Numbered p) (x : Process) where
  pub process_same : process_at (with_process s p x) p ≡ x
  unfolding process_at with_process
  process_same = grind (arith, at_put_same)

  pub process_other : (k : ℕ) → (k ≡ p → ⊥) → process_at (with_process s p x) k ≡ process_at s k
  unfolding process_at with_process
  process_other k h = at_put_other s.processes p k x no_process h

  -- of each process: of the new one, and of the others as before
  each_of : (P : Process → Type 0) → P x → ((k : ℕ) → P (process_at s k)) → (k : ℕ) → P (process_at (with_process s p x) k)
  each_of P new old k = grind (arith, process_same, process_other)

-- ---- a channel is replaced
module _ (s : System) (q p : ℕ) (c : Channel) where
  channel_other : (a b : ℕ) → (channel_number a b ≡ channel_number q p → ⊥) → channel_at (with_channel s q p c) a b ≡ channel_at s a b
  unfolding channel_at with_channel
  channel_other a b h = at_put_other s.channels (channel_number q p) (channel_number a b) c empty_channel h

  no_channel : (a b : ℕ) → channel_number q p ≡ 0 → channel_at (with_channel s q p c) a b ≡ channel_at s a b
  unfolding channel_at with_channel put
  no_channel a b e = rw e

  pub channel_apart : (a b : ℕ) → ((a ≡ q) × (b ≡ p) → ⊥) → channel_at (with_channel s q p c) a b ≡ channel_at s a b
  channel_apart a b h = grind (arith, same_ends, channel_other, no_channel)

module _ (s : System) (shape : Shape s) (q p : ℕ) (from : Numbered q) (to : Numbered p) (c : Channel) where
  both : (is_one_of 8 q && is_one_of 8 p) ≡ true
  both = grind arith

  pub channel_same : channel_at (with_channel s q p c) q p ≡ c
  unfolding channel_at with_channel
  channel_same = grind (arith, at_put_same, number_in)

  -- of each channel: of the new one, and of the others as before
  pub each_channel : (P : ℕ → ℕ → Channel → Type 0) → P q p c → ((a b : ℕ) → P a b (channel_at s a b)) → (a b : ℕ) → P a b (channel_at (with_channel s q p c) a b)
  each_channel P new old a b = grind (arith, channel_same, channel_apart)

  long_channels : length (with_channel s q p c).channels ≡ 64
  unfolding with_channel
  long_channels = length-put s.channels (channel_number q p) c ∙ shape.channels

  pub shape_channel : length c.slots ≡ 8 → Shape (with_channel s q p c)
  unfolding process_at with_channel
  shape_channel long =
      record {
        processes = shape.processes;
        channels = long_channels;
        slots = each_channel (λ a b d. length d.slots ≡ 8) long shape.slots;
        pending = shape.pending;
        entries = shape.entries;
        trust = shape.trust;
      }

module _ (s : System) (shape : Shape s) (p : ℕ) (number : Numbered p) (x : Process) where
  length_processes : length (with_process s p x).processes ≡ 8
  unfolding with_process
  length_processes = length-put s.processes p x ∙ shape.processes

  same_trust : length (with_process s p x).trust ≡ 8
  unfolding with_process
  same_trust = shape.trust

  same_channels : length (with_process s p x).channels ≡ 64
  unfolding with_process
  same_channels = shape.channels

  pub shape_process : length x.pending ≡ 8 → length x.history.entries ≡ 32 → Shape (with_process s p x)
  shape_process pending entries =
      record {
        processes = length_processes;
        channels = same_channels;
        slots = λ a b. rw (channels_stay s p x a b) (shape.slots a b);
        pending = each_of s shape p number x (λ y. length y.pending ≡ 8) pending shape.pending;
        entries = each_of s shape p number x (λ y. length y.history.entries ≡ 32) entries shape.entries;
        trust = same_trust;
      }
