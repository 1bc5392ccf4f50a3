-- A settling run does no more steps than its budget, and is refused with 1 or not at all.
use Prim.Native.Nat.{ℕ, zero, suc, ◌≤◌}
use native.Mathlib.Omega.{arith}
use borrow.Author.Tests.{ltb-true}
use lib.Dec.{eqb, ltb}
use Rattle.view.proofs.Laws.{by_pick, each_keeps}
use Rattle.system.specs.declared.System.{System}
use Rattle.sound.specs.Sound.{sound_system}
use Rattle.plan.specs.declared.Action.{Action}
use Rattle.plan.specs.Cut.{whole}
use Rattle.step.specs.Step.{stepped}
use Rattle.settling.specs.declared.Half.{Half}
use Rattle.settling.specs.declared.Half.TheVariants.{Takes, Answers}
use Rattle.settling.specs.Settle.{Settled, Progress, passing, tried, move_of, tried_with, tried_at, half_done, round_done, unless_idle, rounds_done, ended_with, settled}

abbrev Within : ℕ → Progress → Type 0
Within budget x = x.steps ≤ budget

tried-within : (budget : ℕ) (o : Action) (x : Progress) → Within budget x → Within budget (tried budget o x)
unfolding tried passing
tried-within budget o x h =
    by_pick (Within budget) (ltb x.steps budget) _ _
    (λ below. by_pick (Within budget) (eqb (stepped x.system (whole o)).refusal 0) _ _ (λ e. omega (arith, ltb-true x.steps budget below)) (λ e. h))
    (λ e. h)

half_within : (budget n : ℕ) (half : Half) (x : Progress) → Within budget x → Within budget (half_done budget half n x)
unfolding half_done tried_at tried_with
half_within budget n half x h =
    each_keeps (Within budget) n (tried_at budget half n)
    (λ p l u y k. each_keeps (Within budget) n (tried_with budget half p) (λ q m v z i. tried-within budget (move_of half p q) z i) y k) x h

pub round_within : (budget n : ℕ) (x : Progress) → Within budget x → Within budget (round_done budget n x)
unfolding round_done
round_within budget n x h = half_within budget n Answers _ (half_within budget n Takes x h)

rounds_within : (k budget n : ℕ) (x : Progress) → Within budget x → Within budget (rounds_done k budget n x)
unfolding rounds_done unless_idle
rounds_within zero budget n x h = h
rounds_within (suc k) budget n x h =
    let y = round_within budget n x h in
    by_pick (Within budget) (eqb (round_done budget n x).steps x.steps) _ _ (λ e. y) (λ e. rounds_within k budget n (round_done budget n x) y)

pub settled_steps : (budget : ℕ) (s : System) → (settled budget s).steps ≤ budget
unfolding settled ended_with
settled_steps budget s =
    by_pick (λ (o : Settled). o.steps ≤ budget) (sound_system s) _ _ (λ e. rounds_within (suc budget) budget s.n _ (omega arith)) (λ e. omega arith)

pub settled_number : (budget : ℕ) (s : System) → (settled budget s).refusal ≤ 1
unfolding settled ended_with
settled_number budget s = by_pick (λ (o : Settled). o.refusal ≤ 1) (sound_system s) _ _ (λ e. omega arith) (λ e. omega arith)
