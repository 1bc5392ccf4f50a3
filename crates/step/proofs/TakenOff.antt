-- The system once the message that a step takes is off: the processes stay, and each channel but the one that it was on.
use Prim.Native.Nat.{ℕ, zero, suc}
use mathlib.Core.Path.{◌≡◌, refl, sym, ap}
use mathlib.Core.Bool.{◌&&◌}
use mathlib.Core.List.{List}
use native.Mathlib.Omega.{arith}
use native.Mathlib.Decide.{dec_le}
use native.Mathlib.Nat.{lt_of_not-le}
use lib.Dec.{eqb}
use lib.ListN.{length}
use Rattle.view.specs.Logic.{pick, at, put}
use Rattle.view.proofs.Laws.{by_pick, at_put_same, put_past, at_past}
use Rattle.channel.specs.declared.Channel.{Channel}
use Rattle.channel.specs.Channel.{empty_channel, popped}
use Rattle.channel.proofs.Laws.{empty-popped}
use Rattle.system.specs.declared.Process.{Process}
use Rattle.system.specs.declared.System.{System}
use Rattle.system.specs.System.{process_at, variables_at, channel_number, channel_at, with_channel}
use Rattle.plan.specs.declared.Scope.{Scope}
use Rattle.step.specs.Step.{taken_off}
use Rattle.step.proofs.Frames.{channel_apart}

-- ---- the oldest message comes off the channel from q to p, whatever their numbers
pub popped_at : (l : List Channel) (k : ℕ) → at (put l k (popped (at l k empty_channel))) k empty_channel ≡ popped (at l k empty_channel)
unfolding at put
popped_at l zero = sym empty-popped
popped_at l (suc k) =
    elim (dec_le (suc k) (length l)) [
      | yes high ↦ at_put_same l (suc k) _ empty_channel (omega arith) high
      | no past ↦ rw (put_past l (suc k) _ (lt_of_not-le past), at_past l (suc k) empty_channel (lt_of_not-le past)) (sym empty-popped)
    ]

module _ (s : System) (q p : ℕ) where
  abbrev t : System
  t = with_channel s q p (popped (channel_at s q p))

  pub popped_same : channel_at t q p ≡ popped (channel_at s q p)
  unfolding channel_at with_channel
  popped_same = popped_at s.channels (channel_number q p)

  popped_channel : (a b : ℕ) → channel_at t a b ≡ pick (eqb q a && eqb b p) (popped (channel_at s a b)) (channel_at s a b)
  unfolding pick
  popped_channel a b = grind (arith, popped_same, channel_apart)

-- ---- and off that from the partner to the actor, where the step takes one
module _ (s : System) (c : Scope) where
  pub taken_size : s.n ≡ (taken_off s c).n
  unfolding taken_off with_channel
  taken_size = by_pick (λ (t : System). s.n ≡ t.n) c.takes _ _ (λ e. refl) (λ e. refl)

  taken_process : (k : ℕ) → process_at (taken_off s c) k ≡ process_at s k
  unfolding taken_off process_at with_channel
  taken_process k = by_pick (λ (t : System). process_at t k ≡ process_at s k) c.takes _ _ (λ e. refl) (λ e. refl)

  pub taken_variables : (k : ℕ) → variables_at (taken_off s c) k ≡ variables_at s k
  taken_variables k = ap (λ (x : Process). x.variables) (taken_process k)

  pub taken_channel : (a b : ℕ) → channel_at (taken_off s c) a b
      ≡ pick ((c.takes && eqb c.partner.0 a) && eqb b c.actor.0) (popped (channel_at s a b)) (channel_at s a b)
  unfolding taken_off pick
  taken_channel a b = grind (arith, popped_channel)
