-- On a system reached from a fresh one the bound leaves no room for the answer budget.
use Prim.Native.Nat.{ℕ, suc, ◌≤◌, ◌<◌}
use mathlib.Core.Path.{◌≡◌, refl, sym, ◌∙◌, ap}
use mathlib.Core.Bool.{false}
use mathlib.Core.List.{List}
use native.Mathlib.Omega.{arith}
use borrow.Author.Tests.{eqb-true, eqb-false, ltb-false}
use lib.Dec.{eqb, ltb}
use Rattle.view.specs.Logic.{pick}
use Rattle.view.proofs.Laws.{by_test, or_left, or_right, true_is_not_false}
use Rattle.system.specs.declared.System.{System}
use Rattle.system.specs.Fresh.{fresh_of}
use Rattle.sound.specs.Sound.{sound_system}
use Rattle.events.specs.Event.{Event, ran}
use Rattle.settling.specs.declared.Ending.TheVariants.{Budget}
use Rattle.settling.specs.Settle.{Settled, Progress, round_done, nothing_to_do, ending_of, ended_with, outset, settled_from, settled, settling_budget}
use Rattle.settling.proofs.Idle.{looks_round}
use Rattle.settling.proofs.Steps.{Way, onward, round_leads, rounds_lead, sound_settled, not_budget, idle_none}
use Rattle.bound.specs.Settling.{NeverBudget}
use Rattle.bound.proofs.Theorem.{further_done}

-- where there is more to do, one round does more
more_done : (y : Progress) → nothing_to_do y.system ≡ false → y.steps < (round_done (suc y.steps) y.system.n y).steps
more_done y more =
    let z = round_done (suc y.steps) y.system.n y in
    let up = (looks_round (suc y.steps) y.system.n).rises y in
    by_test (eqb z.steps y.steps)
    (λ e. true_is_not_false (sym (idle_none (suc y.steps) y.system.n y refl (omega arith) (eqb-true z.steps y.steps e)) ∙ more))
    (λ e. omega (arith, up, eqb-false z.steps y.steps e))

-- a list that uses the budget up, and a further one, are more than the bound
no_budget : (n : ℕ) (es : List Event) (y : Progress) → Way (outset (ran (fresh_of n).system es)) y → settling_budget ≤ y.steps → nothing_to_do y.system ≡ false → ⊥
no_budget n es y way full more =
    let z = round_done (suc y.steps) y.system.n y in
    let all = onward (outset (ran (fresh_of n).system es)) y z way (round_leads (suc y.steps) y.system.n y) in
    omega (arith, all.count, more_done y more, full, (further_done n es z.system all.new all.each all.leads).budget)

unsound_held : (s : System) → sound_system s ≡ false → (settled settling_budget s).ending ≡ Budget → ⊥
unfolding settled pick
unsound_held s e said = let z : ◌≡◌ {A = ℕ} 0 1 = cc (rw e at said) in omega arith

pub never_budget : (n : ℕ) (es : List Event) → NeverBudget n es
unfolding ended_with ending_of
never_budget n es said =
    let s = ran (fresh_of n).system es in
    let y = settled_from settling_budget s in
    by_test (sound_system s)
    (λ sound.
    let ending = sym (ap (λ (o : Settled). o.ending) (sound_settled settling_budget s sound)) ∙ said in
    by_test (ltb y.steps settling_budget) (λ below. not_budget settling_budget y (or_left (ltb y.steps settling_budget) (nothing_to_do y.system) below) ending)
    (λ over.
    by_test (nothing_to_do y.system) (λ none. not_budget settling_budget y (or_right (ltb y.steps settling_budget) (nothing_to_do y.system) none) ending)
    (λ more. no_budget n es y (rounds_lead 7937 settling_budget s.n (outset s)) (ltb-false y.steps settling_budget over) more)))
    (λ unsound. unsound_held s unsound said)
