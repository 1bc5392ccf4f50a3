-- Laws of what a step counts: sums in turns, what waits once a message is off, and the tally of a step.
use Prim.Native.Nat.{ℕ, zero, suc, ◌+◌, ◌-◌, ◌≤◌, ◌<◌}
use mathlib.Core.Path.{◌≡◌, refl, sym, ◌∙◌, ap}
use mathlib.Core.Bool.{Bool, true, false, ◌&&◌}
use mathlib.Core.List.{List, map}
use native.Mathlib.Omega.{arith}
use borrow.Author.Tests.{eqb-true, eqb-false}
use lib.Dec.{eqb}
use lib.ListN.{length, get_or, drop}
use lib.Seq.{get_or-drop}
use Rattle.std.proofs.Common.{Fits, w8, Result, Ok, Err}
use Rattle.std.specs.Result.{result_and}
use Rattle.std.specs.List.{sum}
use Rattle.view.specs.Logic.{is_one_of, pick, sum_up_to, at, one}
use Rattle.view.specs.View.{has}
use Rattle.view.proofs.Laws.{by_pick, by_test}
use Rattle.view.proofs.Sums.{sum_at_most, sum_same}
use Rattle.tallies.specs.declared.Tally.{Tally}
use Rattle.tallies.specs.Tally.{no_tally}
use Rattle.channel.specs.Channel.{empty_channel}
use Rattle.channel.proofs.Laws.{popped_len}
use Rattle.system.specs.declared.System.{System}
use Rattle.system.specs.Outcome.{Outcome, refused}
use Rattle.system.specs.declared.refusal.Refusal.{Refusal}
use Rattle.system.specs.declared.refusal.Refusal.TheVariants.{Stranger, Crashed}
use Rattle.system.specs.Refusal.{number, answer_number}
use Rattle.system.specs.System.{variables_at, channel_number, channel_at}
use Rattle.sound.specs.Sound.{sound_system}
use Rattle.plan.specs.declared.Scope.{Scope}
use Rattle.plan.specs.declared.Step.{Step}
use Rattle.plan.specs.Scope.{scope_of}
use Rattle.plan.specs.Plan.{Planned}
use Rattle.plan.specs.Cut.{cut_by}
use Rattle.step.specs.Step.{plan_of, taken_off, if_allowed, carried_out, permitted, attempted}
use Rattle.events.specs.Counts.{waiting_from, waiting_towards, vanishes_at, vanished, tally_if, step_tally, done_tally}
use Rattle.step.proofs.Inversion.{sound_stepped}
use Rattle.step.proofs.TakenOff.{taken_variables, taken_channel}
use Rattle.step.proofs.Weights.{one_small}
use Rattle.image.specs.Image.{image_width, channel_width, channels_place, length_place, rows, channel_in, decoded, no_system, system_in}
use Rattle.effects.specs.Named.{members_of}
use Rattle.effects.proofs.Named.{sum_members}
use Rattle.alternatives.proofs.Carrying.{some_number}
use Rattle.engine.specs.Engine.{Attempts}
use Rattle.counting.specs.Tallied.{counted, Counts}

-- ---- who vanishes
pub few_vanish : (s : System) (to : ℕ) → sum_up_to 8 (vanishes_at s to) ≤ 8
unfolding vanishes_at
few_vanish s to = omega (arith, sum_at_most 8 (vanishes_at s to) 1 (λ k l u. one_small _))

-- the code asks the addressees alone
pub addressees_vanish : (s : System) (to : ℕ) → sum (map (λ k. one (variables_at s k).crashed) (members_of to)) ≡ vanished s to
unfolding vanished vanishes_at one pick
addressees_vanish s to =
    sum_members to (λ k. one (variables_at s k).crashed)
    ∙ sum_same 8 _ (vanishes_at s to) (λ k l u. by_test (has to k) (λ on. rw on) (λ off. rw off))

-- ---- once the taken message is off
-- as many have crashed as before
pub taken_vanished : (s : System) (c : Scope) (to : ℕ) → vanished s to ≡ vanished (taken_off s c) to
unfolding vanished vanishes_at sum_up_to
taken_vanished s c to = simp taken_variables

-- the code's count of one channel
pub taken_len : (s : System) (c : Scope) (q : ℕ)
    → (channel_at (taken_off s c) q c.actor.0).len ≡ (channel_at s q c.actor.0).len - one (c.takes && eqb q c.partner.0)
unfolding one pick
taken_len s c q = grind (arith, taken_channel, popped_len)

-- ---- how many wait at most, where each byte is below 256
abbrev Bytes : List ℕ → Type 0
Bytes b = (i : ℕ) → Fits w8 (get_or b i 0)

bytes_left : (w : ℕ) (b : List ℕ) → Bytes b → Bytes (drop w b)
bytes_left w b small i = rw (get_or-drop w b i 0) (small (w + i))

each_short : (n w : ℕ) (b : List ℕ) → Bytes b → (k : ℕ) → (at (rows n w channel_in b) k empty_channel).len < 256
unfolding rows channel_in at empty_channel
each_short n w b small zero = omega arith
each_short zero w b small (suc k) = omega arith
each_short (suc n) w b small (suc zero) = (small length_place).fits
each_short (suc n) w b small (suc (suc k)) = each_short n w (drop w b) (bytes_left w b small) (suc k)

short : (b : List ℕ) → Bytes b → (q p : ℕ) → (channel_at (system_in b) q p).len < 256
unfolding channel_at system_in decoded no_system at rows
short b small q p =
    by_pick (λ (s : System). (at s.channels (channel_number q p) empty_channel).len < 256) (eqb (length b) image_width) _ _
    (λ e. each_short 64 channel_width (drop channels_place b) (bytes_left channels_place b small) (channel_number q p))
    (λ e. each_short zero channel_width b small (channel_number q p))

size_low : (b : List ℕ) → Bytes b → (system_in b).n < 256
unfolding system_in decoded no_system
size_low b small = by_pick (λ (s : System). s.n < 256) (eqb (length b) image_width) _ _ (λ e. (small 0).fits) (λ e. omega arith)

pub few_towards : (b : List ℕ) → Bytes b → (c : Scope) (n : ℕ) → n < 256 → sum_up_to n (waiting_from (taken_off (system_in b) c) c.actor.0) ≤ 65025
few_towards b small c n low =
    omega (arith, sum_at_most n (waiting_from (taken_off (system_in b) c) c.actor.0) 255 (λ q l u. omega (arith, taken_len (system_in b) c q, short b small q c.actor.0)))

few_from : (b : List ℕ) → Bytes b → (n p : ℕ) → n < 256 → sum_up_to n (waiting_from (system_in b) p) ≤ 65025
few_from b small n p low = omega (arith, sum_at_most n (waiting_from (system_in b) p) 255 (λ q l u. omega (arith, short b small q p)))

few_at : (b : List ℕ) → Bytes b → (p : ℕ) → waiting_towards (system_in b) p ≤ 65025
unfolding waiting_towards
few_at b small p = few_from b small (system_in b).n p (size_low b small)

pub few_in : (b : List ℕ) → Bytes b → (n : ℕ) → n < 256 → sum_up_to n (waiting_towards (system_in b)) ≤ 16581375
few_in b small n low = omega (arith, sum_at_most n (waiting_towards (system_in b)) 65025 (λ p l u. few_at b small p))

-- ---- a step that is done, and one that is not
-- the plan of a step that is done is not refused
planned_if_done : (s : System) (o : Step) → (attempted s o).refusal ≡ 0 → (cut_by o.cut (plan_of s o.action)).refusal ≡ 0
unfolding attempted permitted carried_out pick
planned_if_done s o done = acts (is_one_of s.n c.actor.0 && is_one_of s.n c.partner.0) (variables_at s c.actor.0).crashed done
  where
    c : Scope
    c = scope_of o.action

    a : Planned
    a = cut_by o.cut (plan_of s o.action)

    carried : (plain : Bool) → eqb a.refusal 0 ≡ plain → (x : Outcome) → (pick plain x (refused a.refusal s)).refusal ≡ 0 → a.refusal ≡ 0
    carried true is x e = eqb-true a.refusal 0 is
    carried false is x e = e

    acts : (named crashed : Bool) → (if_allowed s (pick named (pick crashed (Err Crashed) (Ok tt)) (Err Stranger)) (carried_out s (taken_off s c) c.actor.0 a)).refusal ≡ 0 → a.refusal ≡ 0
    acts true true e = absurd (omega (arith, e))
    acts true false e = carried (eqb a.refusal 0) refl _ e
    acts false crashed e = absurd (omega (arith, e))

module _ (o : Step) (b d : List ℕ) where
  answered : (k : ℕ) → Attempts o b k d → k ≡ (attempted (system_in b) o).refusal
  answered k gave = ap (λ (x : Outcome). x.refusal) gave.gives.outcome

  -- the step's answer, with what was counted before it
  pub tallied : (done : Result (Unit {0}) Refusal) (r : Result Tally Refusal) → Attempts o b (answer_number done) d → Counts (system_in b) o r
      → Attempts o b (answer_number (result_and done r)) d × (counted (result_and done r) ≡ step_tally (system_in b) o)
  unfolding step_tally tally_if pick
  tallied (Ok x) (Ok t) gave counts = (gave, rw (← answered 0 gave) counts)
  tallied (Ok x) (Err r) gave counts =
      absurd (eqb-false (number r) 0 (some_number r) (sym counts ∙ planned_if_done (system_in b) o (sym (answered 0 gave))))
  tallied (Err r) counts gave never =
      (gave, rw (← answered (number r) gave, some_number r) refl)

-- where the system is sound, a step counts what it counts on any
pub sound_counts : (s : System) (o : Step) → sound_system s ≡ true → step_tally s o ≡ done_tally s o
unfolding done_tally step_tally tally_if pick
sound_counts s o sound = rw (sound_stepped s o sound) (go (eqb (attempted s o).refusal 0) _)
  where
    go : (t : Bool) (a : Tally) → pick t a no_tally ≡ pick t (pick t a no_tally) no_tally
    go true a = refl
    go false a = refl
