-- The processes and the channels, looked at together.
use Prim.Native.Nat.{ℕ, zero, suc}
use mathlib.Core.Path.{◌≡◌, refl}
use mathlib.Core.Bool.{Bool, ◌&&◌, and_assoc}
use native.Mathlib.Omega.{arith}
use Rattle.view.specs.Logic.{all_up_to}
use Rattle.system.specs.declared.System.{System}
use Rattle.sound.specs.Sound.{in_range, sound_process_at, sound_channels_from, sound_processes, sound_channels, sound_system}

-- process q, and each channel that it sends on
abbrev pub both_at : System → ℕ → Bool
both_at s q = sound_process_at s q && sound_channels_from s q

all_both : (n : ℕ) (f g : ℕ → Bool) → all_up_to n (λ k. f k && g k) ≡ (all_up_to n f && all_up_to n g)
unfolding all_up_to
all_both zero f g = refl
all_both (suc n) f g = rw (all_both n f g) (grind arith)

pub by_process : (s : System) → sound_system s ≡ (in_range 1 8 s.n && all_up_to s.n (both_at s))
unfolding sound_system sound_processes sound_channels
by_process s = rw (all_both s.n (sound_process_at s) (sound_channels_from s), and_assoc)
