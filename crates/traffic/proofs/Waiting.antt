-- Where the messages of a step go: how many wait once one has come off, once some are sent, and once a process has stopped.
use Prim.Native.Nat.{ℕ, zero, suc, ◌+◌, ◌≤◌, ◌<◌}
use mathlib.Core.Path.{◌≡◌, refl, sym, ◌∙◌, ap}
use mathlib.Core.Bool.{true, false}
use mathlib.Core.List.{List}
use native.Mathlib.Omega.{arith}
use borrow.Author.Tests.{lt-ltb}
use Rattle.view.specs.Logic.{pick, each_up_to, sum_up_to, one}
use Rattle.view.specs.View.{has, within, counted_at, count_of}
use Rattle.view.proofs.Laws.{by_test, true_is_not_false}
use Rattle.view.proofs.Sets.{has_number, has_inside}
use Rattle.view.proofs.Sums.{sum_same, sum-changed, sum-plus, sum_past}
use Rattle.channel.specs.declared.Message.{Message}
use Rattle.channel.specs.declared.Channel.{Channel}
use Rattle.channel.specs.Channel.{empty_channel, pushed, popped}
use Rattle.system.specs.declared.System.{System}
use Rattle.system.specs.System.{process_at, variables_at, with_process, channel_at, with_channel, broadcasted, room_for}
use Rattle.plan.specs.declared.Change.{Change}
use Rattle.plan.specs.Plan.{changed}
use Rattle.step.specs.Step.{crashed_at}
use Rattle.events.specs.Counts.{waiting_from, waiting_towards, waiting_in, vanishes_at, vanished}
use Rattle.step.proofs.Frames.{Shape, Numbered, channels_stay, channel_same, channel_apart}
use Rattle.step.proofs.Cases.{Effect}
use Rattle.step.proofs.Carried.{Ready, out, same_crashed, has_room_lem, as_before, elsewhere, towards}

-- ---- what waits, over the numbers 1 to n
abbrev pub towards_up_to : ℕ → System → ℕ → ℕ
towards_up_to n s p = sum_up_to n (waiting_from s p)

abbrev pub waiting_up_to : ℕ → System → ℕ
waiting_up_to n s = sum_up_to n (towards_up_to n s)

pub towards_sized : (n : ℕ) (s : System) → s.n ≡ n → (p : ℕ) → waiting_towards s p ≡ towards_up_to n s p
unfolding waiting_towards
towards_sized n s e p = ap (λ (k : ℕ). sum_up_to k (waiting_from s p)) e

pub waiting_sized : (n : ℕ) (s : System) → s.n ≡ n → waiting_in s ≡ waiting_up_to n s
unfolding waiting_in waiting_towards
waiting_sized n s e = grind arith

-- ---- how many a view names
pub counted_up_to : (v k : ℕ) → each_up_to k (counted_at v) 0 ≡ sum_up_to k (λ j. one (has v j))
unfolding each_up_to sum_up_to counted_at one pick
counted_up_to v zero = refl
counted_up_to v (suc k) =
    by_test (has v (suc k)) (λ e. rw e (omega (arith, counted_up_to v k))) (λ e. rw e (omega (arith, counted_up_to v k)))

pub count_sum_lem : (v : ℕ) → count_of v ≡ sum_up_to 8 (λ j. one (has v j))
unfolding count_of
count_sum_lem v = counted_up_to v 8

-- ---- a message comes off
pop_fewer : (c : Channel) → 0 < c.len → (popped c).len + 1 ≡ c.len
unfolding popped pick
pop_fewer c h = rw (lt-ltb 0 c.len h) (omega arith)

pub one_off : (n : ℕ) (s : System) → Shape s → (q p : ℕ) → Numbered q → Numbered p → q ≤ n → p ≤ n → 0 < (channel_at s q p).len
    → waiting_up_to n (with_channel s q p (popped (channel_at s q p))) + 1 ≡ waiting_up_to n s
one_off n s shape q p from to q-high p-high some =
    let c = popped (channel_at s q p) in
    let t = with_channel s q p c in
    let here : waiting_from t p q ≡ c.len = ap (λ (d : Channel). d.len) (channel_same s shape q p from to c) in
    omega (
      arith,
      here,
      pop_fewer (channel_at s q p) some,
      sum-changed n (waiting_from t p) (waiting_from s p) q from.low q-high
          (λ a h. ap (λ (d : Channel). d.len) (channel_apart s q p c a p (λ z. h z.0))),
      sum-changed n (towards_up_to n t) (towards_up_to n s) p to.low p-high
          (λ b h. sum_same n _ _ (λ a l u. ap (λ (d : Channel). d.len) (channel_apart s q p c a b (λ z. h z.1)))),
    )

-- ---- messages go out
push_more : (c : Channel) (m : Message) → c.len < 8 → (pushed c m).len ≡ c.len + 1
unfolding pushed pick
push_more c m h = rw (lt-ltb c.len 8 h)

module _ (n : ℕ) (small : n ≤ 8) (s u : System) (ready : Ready s u) (p : ℕ) (number : Numbered p) (high : p ≤ n) (live : (variables_at s p).crashed ≡ false)
    (c : Change) (calm : c.variables.crashed ≡ false) (to : ℕ) (m : Message) (room : room_for u p to ≡ true) (inside : within n to ≡ true) where
  abbrev after : System
  after = broadcasted (with_process u p (changed (process_at u p) c)) p to m

  was_crashed : (b : ℕ) → (variables_at u b).crashed ≡ (variables_at s b).crashed
  was_crashed b = grind arith

  longer : (b : ℕ) → has to b ≡ true → (variables_at s b).crashed ≡ false → waiting_from after b p ≡ waiting_from u b p + 1
  longer b named on =
      ap (λ (d : Channel). d.len)
      ((out s u ready p number live c calm to m room).reached b (has_number to b named).1 named (same_crashed s u ready p number live c calm to m room b ∙ on)
      ∙ ap (λ (d : Channel). pushed d m) (channels_stay u p (changed (process_at u p) c) p b))
      ∙ push_more (channel_at u p b) m (has_room_lem s u ready p number live c calm to m room b named on)

  not_told : (a b : ℕ) → (a ≡ p → has to b ≡ true → (variables_at s b).crashed ≡ false → ⊥) → waiting_from after b a ≡ waiting_from u b a
  not_told a b h = grind (arith, as_before)

  each_told : (b : ℕ) → towards_up_to n after b + vanishes_at u to b ≡ towards_up_to n u b + one (has to b)
  unfolding vanishes_at one pick
  each_told b =
      by_test (has to b)
      (λ named.
      by_test (variables_at s b).crashed
      (λ gone.
      rw (named, was_crashed b ∙ gone)
      (omega (arith, sum_same n (waiting_from after b) (waiting_from u b) (λ a l h. not_told a b (λ e i on. true_is_not_false (sym gone ∙ on))))))
      (λ on.
      rw (named, was_crashed b ∙ on)
      (omega
      (arith, longer b named on, sum-changed n (waiting_from after b) (waiting_from u b) p number.low high (λ a h. not_told a b (λ e. absurd (h e)))))))
      (λ other.
      rw other (omega (arith, sum_same n (waiting_from after b) (waiting_from u b) (λ a l h. not_told a b (λ e i. true_is_not_false (sym i ∙ other))))))

  -- p, which is live, has its own message to itself
  pub own_told : towards_up_to n after p ≡ towards_up_to n u p + one (has to p)
  unfolding vanishes_at one pick
  own_told = grind (arith, each_told)

  -- nobody past n is an addressee
  nobody_past : (k : ℕ) → n < k → has to k ≡ false
  nobody_past k h = grind (arith, has_inside)

  -- what waits then, and what vanishes, waited before, or was sent
  pub waits_once_told : waiting_up_to n after + vanished u to ≡ waiting_up_to n u + count_of to
  unfolding vanished vanishes_at one pick
  waits_once_told =
      omega (
        arith,
        sum_same n (λ b. towards_up_to n after b + vanishes_at u to b) (λ b. towards_up_to n u b + one (has to b)) (λ k l h. each_told k),
        sum-plus n (towards_up_to n after) (vanishes_at u to),
        sum-plus n (towards_up_to n u) (λ k. one (has to k)),
        sum_past 8 n (vanishes_at u to) small (λ k h. rw (nobody_past k h)),
        sum_past 8 n (λ k. one (has to k)) small (λ k h. rw (nobody_past k h)),
        count_sum_lem to,
      )

-- ---- a process stops
module _ (n : ℕ) {s w : System} {left : ℕ → ℕ → List Message} {p : ℕ} {c : Change} {to : ℕ} {m : Message} (f : Effect s w left p c false to m) (number : Numbered p) (high : p ≤ n) where
  channel_cleared : (a : ℕ) → waiting_from (crashed_at w p) p a ≡ 0
  unfolding empty_channel
  channel_cleared a = ap (λ (d : Channel). d.len) (towards f number a)

  pub waits_once_stopped : waiting_up_to n (crashed_at w p) + towards_up_to n w p ≡ waiting_up_to n w
  unfolding sum_up_to
  waits_once_stopped =
      omega (
        arith,
        sum-changed n (towards_up_to n (crashed_at w p)) (towards_up_to n w) p number.low high
            (λ b h. sum_same n _ _ (λ a l u. ap (λ (d : Channel). d.len) (elsewhere f number a b h))),
        sum_past n 0 (waiting_from (crashed_at w p) p) (omega arith) (λ a h. channel_cleared a),
      )
