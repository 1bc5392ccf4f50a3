-- Laws of the soundness test: one turn of each of its loops.
use Prim.Native.Nat.{ℕ, zero, suc, ◌-◌, ◌<◌, ◌≤◌}
use mathlib.Core.Path.{◌≡◌, sym, ap}
use mathlib.Core.Bool.{Bool, true, false, ◌&&◌, ◌||◌, not, and_assoc, and-true}
use mathlib.Core.List.{List, [], ◌∷◌}
use native.Mathlib.Nat.{not-suc-le-zero, le_of_suc-le-suc}
use native.Mathlib.Numerals.{sub-one}
use native.Mathlib.Omega.{arith}
use borrow.Author.Tests.{le-leb, lt-leb}
use lib.Dec.{eqb}
use lib.ListN.{length, get_or, take}
use Rattle.view.specs.Logic.{at}
use Rattle.channel.specs.declared.Message.{Message}
use Rattle.channel.specs.declared.Channel.{Channel}
use Rattle.channel.specs.Channel.{blank, waiting}
use Rattle.sound.specs.Sound.{every, sound_message, sound_channel}

-- ---- messages on a channel
every_next : (f : Message → Bool) (l : List Message) (i : ℕ) (d : Message) → i < length l
    → every f ((take (suc i) l)) ≡ (every f ((take i l)) && f (get_or l i d))
unfolding every
every_next f [] i d h = absurd (not-suc-le-zero h)
every_next f (s ∷ l) zero d h = and-true _
every_next f (s ∷ l) (suc i) d h = rw (every_next f l i d (le_of_suc-le-suc h), and_assoc)

-- a channel on which nothing waits
pub empty_sound : (n q p : ℕ) (crashed : Bool) (c : Channel) → c.len ≡ 0 → sound_channel n crashed q p c ≡ true
unfolding sound_channel waiting every
empty_sound n q p true c e = rw e
empty_sound n q p false c e = rw e

-- a channel that holds too many
pub long_channel : (n q p : ℕ) (crashed : Bool) (c : Channel) → 8 < c.len → sound_channel n crashed q p c ≡ false
unfolding sound_channel
long_channel n q p crashed c h = rw (lt-leb c.len 8 h)

-- the first i messages of the channel from q to p are sound, and none waits towards a process that has crashed
unfoldable pub sound_so_far : ℕ → Bool → ℕ → ℕ → Channel → ℕ → Bool
sound_so_far n crashed q p c i = (not crashed || eqb c.len 0) && every (sound_message n q p) (take i c.slots)

module _ (n q p : ℕ) (crashed : Bool) (c : Channel) where
  pub message_none : (not crashed || eqb c.len 0) ≡ sound_so_far n crashed q p c 0
  unfolding sound_so_far every
  message_none = sym (and-true _)

  -- t is the test of message i
  pub message_turn : (i : ℕ) (ok t : Bool) → 1 ≤ i → i ≤ length c.slots → ok ≡ sound_so_far n crashed q p c (i - 1)
      → t ≡ sound_message n q p (at c.slots i blank)
      → (ok && t) ≡ sound_so_far n crashed q p c i
  unfolding sound_so_far at
  message_turn zero ok t h u so_far test = absurd (omega arith)
  message_turn (suc i) ok t h u so_far test = rw (every_next (sound_message n q p) c.slots i blank u, ← and_assoc, ← test) (ap (λ (b : Bool). b && t) (rw sub-one at so_far))

  pub message_all : c.len ≤ 8 → sound_so_far n crashed q p c c.len ≡ sound_channel n crashed q p c
  unfolding sound_so_far sound_channel waiting
  message_all h = rw (le-leb c.len 8 h)
