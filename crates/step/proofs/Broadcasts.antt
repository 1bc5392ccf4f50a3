-- What a broadcast and a stop do to each channel.
use Prim.Native.Nat.{ℕ, zero, suc, ◌≤◌, ◌<◌}
use mathlib.Core.Path.{◌≡◌, refl, sym, ◌∙◌, ap, subst}
use mathlib.Core.Bool.{true, false}
use native.Mathlib.Omega.{arith}
use lib.ListN.{length}
use Rattle.view.specs.Logic.{each_up_to, at, is_one_of}
use Rattle.view.specs.View.{has}
use Rattle.view.proofs.Laws.{by_pick, by_number, true_is_not_false}
use Rattle.view.proofs.Sets.{has_number}
use Rattle.channel.specs.declared.Message.{Message}
use Rattle.channel.specs.declared.Channel.{Channel}
use Rattle.channel.specs.Channel.{empty_channel, pushed}
use Rattle.channel.proofs.Laws.{push_long, empty_long}
use Rattle.system.specs.declared.Process.{Process}
use Rattle.system.specs.declared.System.{System}
use Rattle.system.specs.System.{process_at, variables_at, channel_at, with_channel, sent, sent_if_named, broadcasted}
use Rattle.system.proofs.Laws.{number_out}
use Rattle.step.specs.Step.{emptied_from}
use Rattle.step.proofs.Frames.{Shape, Numbered, channel_same, channel_apart, shape_channel}

-- ---- only channels differ
pub record Channels (v t : System) : Type 0 where
  pub shape : Shape t
  pub size : t.n ≡ v.n
  pub processes : (k : ℕ) → process_at t k ≡ process_at v k

pub channels_same : (v : System) → Shape v → Channels v v
channels_same v shape = record { shape = shape; size = refl; processes = λ k. refl }

pub channels_with : (v t : System) → Channels v t → (q p : ℕ) → Numbered q → Numbered p → (c : Channel) → length c.slots ≡ 8 → Channels v (with_channel t q p c)
unfolding with_channel process_at
channels_with v t k q p from to c long =
    record { shape = shape_channel t k.shape q p from to c long; size = k.size; processes = k.processes }

-- ---- a broadcast, once each of 1 to k has had its turn
pub record Told (v : System) (p to : ℕ) (m : Message) (k : ℕ) (t : System) : Type 0 where
  pub frame : Channels v t
  pub reached : (b : ℕ) → b ≤ k → has to b ≡ true → (variables_at v b).crashed ≡ false → channel_at t p b ≡ pushed (channel_at v p b) m
  pub rest : (a b : ℕ) → (a ≡ p → b ≤ k → has to b ≡ true → (variables_at v b).crashed ≡ false → ⊥) → channel_at t a b ≡ channel_at v a b

module _ (v : System) (shape : Shape v) (p : ℕ) (number : Numbered p) (to : ℕ) (m : Message) where
  -- the process whose turn it is is told nothing
  passed_over : (k : ℕ) (t : System) → (has to (suc k) ≡ true → (variables_at v (suc k)).crashed ≡ false → ⊥) → Told v p to m k t → Told v p to m (suc k) t
  passed_over k t none w = grind arith

  told-one : (k : ℕ) (t : System) → k < 8 → has to (suc k) ≡ true → (variables_at v (suc k)).crashed ≡ false → Told v p to m k t
      → Told v p to m (suc k) (with_channel t p (suc k) (pushed (channel_at t p (suc k)) m))
  told-one k t below named live w =
      let next : Numbered (suc k) = record { low = omega arith; high = below } in
      let c = pushed (channel_at t p (suc k)) m in
      let before = w.rest p (suc k) (λ e l. absurd (omega arith)) in
      record {
        frame = channels_with v t w.frame p (suc k) number next c (push_long (channel_at t p (suc k)) m (w.frame.shape.slots p (suc k)));
        reached = λ b h x y.
            by_number b (suc k)
            (λ e.
            subst (λ (j : ℕ). channel_at (with_channel t p (suc k) c) p j ≡ pushed (channel_at v p j) m) (sym e)
            (channel_same t w.frame.shape p (suc k) number next c ∙ ap (λ (d : Channel). pushed d m) before))
            (λ n. channel_apart t p (suc k) c p b (λ z. n z.1) ∙ w.reached b (omega arith) x y);
        rest = λ a b h.
            channel_apart t p (suc k) c a b
            (λ z.
            h z.0 (omega (arith, z.1))
            (subst (λ (j : ℕ). has to j ≡ true) (sym z.1) named)
            (subst (λ (j : ℕ). (variables_at v j).crashed ≡ false) (sym z.1) live))
            ∙ w.rest a b (λ e l. h e (omega arith));
      }

  told_up_to : (k : ℕ) → k ≤ 8 → Told v p to m k (each_up_to k (sent_if_named p to m) v)
  unfolding each_up_to sent_if_named sent
  told_up_to zero h = grind (arith, has_number)
  told_up_to (suc k) h =
      let t = each_up_to k (sent_if_named p to m) v in
      let w = told_up_to k (omega arith) in
      let same = ap (λ (x : Process). x.variables.crashed) (w.frame.processes (suc k)) in
      by_pick (Told v p to m (suc k)) (has to (suc k)) _ _
      (λ named.
      by_pick (Told v p to m (suc k)) (variables_at t (suc k)).crashed _ _
      (λ crashed. passed_over k t (λ x live. true_is_not_false (sym crashed ∙ same ∙ live)) w)
      (λ live. told-one k t (omega arith) named (sym same ∙ live) w))
      (λ other. passed_over k t (λ named. true_is_not_false (sym named ∙ other)) w)

  pub told_all : Told v p to m 8 (broadcasted v p to m)
  unfolding broadcasted
  told_all = told_up_to 8 (omega arith)

-- ---- a stop, once the channels from each of 1 to k are emptied
pub record Emptied (v : System) (p k : ℕ) (t : System) : Type 0 where
  pub frame : Channels v t
  pub reached : (a : ℕ) → 1 ≤ a → a ≤ k → channel_at t a p ≡ empty_channel
  pub rest : (a b : ℕ) → (b ≡ p → ⊥) → channel_at t a b ≡ channel_at v a b

pub emptied_up_to : (v : System) → Shape v → (p : ℕ) → Numbered p → (k : ℕ) → k ≤ 8 → Emptied v p k (each_up_to k (emptied_from p) v)
unfolding each_up_to emptied_from
emptied_up_to v shape p number zero h = grind arith
emptied_up_to v shape p number (suc k) h =
    let t = each_up_to k (emptied_from p) v in
    let w = emptied_up_to v shape p number k (omega arith) in
    let from : Numbered (suc k) = record { low = omega arith; high = h } in
    record {
      frame = channels_with v t w.frame (suc k) p from number empty_channel empty_long;
      reached = λ a l u.
          by_number a (suc k)
          (λ e.
          subst (λ (j : ℕ). channel_at (with_channel t (suc k) p empty_channel) j p ≡ empty_channel) (sym e)
          (channel_same t w.frame.shape (suc k) p from number empty_channel))
          (λ n. channel_apart t (suc k) p empty_channel a p (λ z. n z.0) ∙ w.reached a l (omega arith));
      rest = λ a b n. channel_apart t (suc k) p empty_channel a b (λ z. n z.1) ∙ w.rest a b n;
    }

-- no channel runs from a number that no process can have
no_channel : (s : System) (a b : ℕ) → is_one_of 8 a ≡ false → channel_at s a b ≡ empty_channel
unfolding channel_at at
no_channel s a b e = rw (number_out a b (rw e))

pub emptied_all : (v : System) (p : ℕ) (t : System) → Emptied v p 8 t → (a : ℕ) → channel_at t a p ≡ empty_channel
emptied_all v p t w a = grind (arith, no_channel)
