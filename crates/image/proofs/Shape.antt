-- The system that bytes hold has the shape that the program's types say: whatever the bytes, each channel has eight slots, each
-- process eight records and thirty-two entries.
use Prim.Native.Nat.{ℕ, zero, suc}
use mathlib.Core.Path.{◌≡◌, refl}
use mathlib.Core.List.{List, []}
use lib.ListN.{length, drop}
use Rattle.view.specs.Logic.{at}
use Rattle.view.proofs.Laws.{by_pick}
use Rattle.channel.specs.declared.Channel.{Channel}
use Rattle.channel.specs.Channel.{empty_channel}
use Rattle.system.specs.declared.Process.{Process}
use Rattle.system.specs.declared.System.{System}
use Rattle.system.specs.System.{no_process, process_at, channel_number, channel_at}
pub use Rattle.image.proofs.Laws.{rows_long}
use Rattle.image.specs.Image.{rows, slot_in, channel_in, record_in, history_in, process_in, byte, decoded, no_system, system_in, process_width, channel_width, processes_place, channels_place}

-- what is so of every row that can be read is so of each row
pub each_row : {A : Type 0} (P : A → Type 0) (n w : ℕ) (f : List ℕ → A) (b : List ℕ) (k : ℕ) (d : A) → ((c : List ℕ) → P (f c)) → P d
    → P (at (rows n w f b) k d)
unfolding rows at
each_row P n w f b zero d h e = e
each_row P zero w f b (suc k) d h e = e
each_row P (suc n) w f b (suc zero) d h e = h b
each_row P (suc n) w f b (suc (suc k)) d h e = each_row P n w f (drop w b) (suc k) d h e

module _ (b : List ℕ) where
  -- what is so of every process that can be read, and of a blank one
  pub each_process : (P : Process → Type 0) → ((c : List ℕ) → P (process_in c)) → P no_process → (p : ℕ) → P (process_at (system_in b) p)
  unfolding system_in process_at decoded no_system at
  each_process P h e p = by_pick (λ (s : System). P (process_at s p)) _ _ _ (λ t. each_row P 8 process_width process_in (drop processes_place b) p no_process h e) (λ t. none p)
    where
      none : (p : ℕ) → P (at [] p no_process)
      none zero = e
      none (suc p) = e

  pub each_channel : (P : Channel → Type 0) → ((c : List ℕ) → P (channel_in c)) → P empty_channel → (q p : ℕ) → P (channel_at (system_in b) q p)
  unfolding system_in channel_at decoded no_system at
  each_channel P h e q p =
      by_pick (λ (s : System). P (channel_at s q p)) _ _ _ (λ t. each_row P 64 channel_width channel_in (drop channels_place b) (channel_number q p) empty_channel h e) (λ t. none (channel_number q p))
    where
      none : (k : ℕ) → P (at [] k empty_channel)
      none zero = e
      none (suc k) = e

  pub slots_long : (q p : ℕ) → length (channel_at (system_in b) q p).slots ≡ 8
  unfolding channel_in empty_channel
  slots_long = each_channel (λ c. length c.slots ≡ 8) (λ c. rows_long 8 _ slot_in c) refl

  pub pending_long : (p : ℕ) → length (process_at (system_in b) p).pending ≡ 8
  unfolding process_in no_process
  pending_long = each_process (λ x. length x.pending ≡ 8) (λ c. rows_long 8 _ record_in _) refl

  pub entries_long : (p : ℕ) → length (process_at (system_in b) p).history.entries ≡ 32
  unfolding process_in history_in no_process
  entries_long = each_process (λ x. length x.history.entries ≡ 32) (λ c. rows_long 32 1 (byte 0) _) refl
