-- A round that does nothing finds nothing to do, and where there is nothing to do it does nothing.
use Prim.Native.Nat.{ℕ, zero, suc, ◌+◌, ◌≤◌, ◌<◌}
use mathlib.Core.Path.{◌≡◌, refl, sym, ◌∙◌, ap}
use mathlib.Core.Bool.{Bool, true, false, ◌&&◌, not}
use mathlib.Core.List.{[], ◌∷◌, ◌++◌}
use native.Mathlib.Omega.{arith}
use borrow.Author.Tests.{ltb-true, ltb-false, eqb-true, eqb-false, lt-ltb}
use lib.Dec.{eqb, ltb}
use Rattle.view.specs.Logic.{pick, all_up_to, each_up_to}
use Rattle.view.proofs.Laws.{by_pick, by_test, and_left, and_right, and_intro, true_is_not_false}
use Rattle.tallies.specs.Tally.{plus, capped}
use Rattle.system.specs.declared.System.{System}
use Rattle.plan.specs.declared.Action.{Action}
use Rattle.plan.specs.Cut.{whole}
use Rattle.step.specs.Step.{stepped}
use Rattle.events.specs.Counts.{step_tally}
use Rattle.settling.specs.declared.Half.{Half}
use Rattle.settling.specs.declared.Half.TheVariants.{Takes, Answers}
use Rattle.settling.specs.Settle.{Progress, passing, tried, move_of, tried_with, tried_at, half_done, round_done, unless_idle, rounds_done, refused_at, all_refused_at, none_done}
use Rattle.settling.proofs.Within.{round_within}

-- f makes progress just where the test fails of the system
pub record Looks (budget : ℕ) (f : Progress → Progress) (quiet : System → Bool) : Type 0 where
  pub rises : (x : Progress) → x.steps ≤ (f x).steps
  pub idle : (x : Progress) → x.steps < budget → (f x).steps ≡ x.steps → (quiet x.system ≡ true) × (f x ≡ x)
  pub still : (x : Progress) → quiet x.system ≡ true → f x ≡ x

looks_then : (budget : ℕ) (f g : Progress → Progress) (a b : System → Bool) → Looks budget f a → Looks budget g b → Looks budget (λ x. g (f x)) (λ s. a s && b s)
looks_then budget f g a b one two =
    record {
      rises = λ x. omega (arith, one.rises x, two.rises (f x));
      idle = λ x below e. go x below e (one.idle x below (omega (arith, one.rises x, two.rises (f x), e)));
      still = λ x e. ap g (one.still x (and_left (a x.system) (b x.system) e)) ∙ two.still x (and_right (a x.system) (b x.system) e);
    }
  where
    go : (x : Progress) → x.steps < budget → (g (f x)).steps ≡ x.steps → (a x.system ≡ true) × (f x ≡ x) → ((a x.system && b x.system) ≡ true) × (g (f x) ≡ x)
    go x below e first =
        let second = two.idle x below (ap (λ (y : Progress). (g y).steps) (sym first.1) ∙ e) in
        (and_intro first.0 second.0, ap g first.1 ∙ second.1)

looks_each : (budget n : ℕ) (f : ℕ → Progress → Progress) (a : System → ℕ → Bool) → ((k : ℕ) → Looks budget (f k) (λ s. a s k))
    → Looks budget (each_up_to n f) (λ s. all_up_to n (a s))
unfolding each_up_to all_up_to
looks_each budget zero f a each =
    record { rises = λ x. omega arith; idle = λ x below e. (refl, refl); still = λ x e. refl }
looks_each budget (suc n) f a each =
    looks_then budget (each_up_to n f) (f (suc n)) (λ s. all_up_to n (a s)) (λ s. a s (suc n)) (looks_each budget n f a each) (each (suc n))

looks_tried : (budget : ℕ) (o : Action) → Looks budget (tried budget o) (λ s. not (eqb (stepped s (whole o)).refusal 0))
unfolding tried passing pick
looks_tried budget o =
    record {
      rises = λ x. rise (ltb x.steps budget) (eqb (stepped x.system (whole o)).refusal 0) x;
      idle = λ x below e. idle (ltb x.steps budget) (eqb (stepped x.system (whole o)).refusal 0) x (lt-ltb x.steps budget below) e;
      still = λ x e. still (ltb x.steps budget) (eqb (stepped x.system (whole o)).refusal 0) x e;
    }
  where
    after : Bool → Bool → Progress → Progress
    after below done x = pick below (pick done (record { system = (stepped x.system (whole o)).system; steps = suc x.steps; tally = capped (plus x.tally (step_tally x.system (whole o))); log = x.log ++ whole o ∷ [] }) x) x

    rise : (below done : Bool) (x : Progress) → x.steps ≤ (after below done x).steps
    rise true true x = omega arith
    rise true false x = omega arith
    rise false done x = omega arith

    idle : (below done : Bool) (x : Progress) → below ≡ true → (after below done x).steps ≡ x.steps → (not done ≡ true) × (after below done x ≡ x)
    idle true true x h e = absurd (omega (arith, e))
    idle true false x h e = (refl, refl)
    idle false done x h e = true_is_not_false (sym h)

    still : (below done : Bool) (x : Progress) → not done ≡ true → after below done x ≡ x
    still true true x e = true_is_not_false (sym e)
    still true false x e = refl
    still false done x e = refl

looks_half : (budget n : ℕ) (h : Half) → Looks budget (half_done budget h n) (λ s. none_done n s h)
unfolding half_done tried_at tried_with none_done all_refused_at refused_at
looks_half budget n h =
    looks_each budget n (tried_at budget h n) (λ s p. all_refused_at n s h p)
    (λ p. looks_each budget n (tried_with budget h p) (λ s q. refused_at s h p q) (λ q. looks_tried budget (move_of h p q)))

-- a round does nothing just where no take and no answer would be done
pub looks_round : (budget n : ℕ) → Looks budget (round_done budget n) (λ s. none_done n s Takes && none_done n s Answers)
unfolding round_done
looks_round budget n =
    looks_then budget (half_done budget Takes n) (half_done budget Answers n) (λ s. none_done n s Takes) (λ s. none_done n s Answers) (looks_half budget n Takes) (looks_half budget n Answers)

idle_again : (budget n : ℕ) (x : Progress) → x.steps ≤ budget → (round_done budget n x).steps ≡ x.steps
    → (round_done budget n (round_done budget n x)).steps ≡ (round_done budget n x).steps
idle_again budget n x within same =
    let y = round_done budget n x in
    by_test (ltb x.steps budget)
    (λ e. ap (λ (z : Progress). (round_done budget n z).steps) ((looks_round budget n).idle x (ltb-true x.steps budget e) same).1)
    (λ e. omega (arith, ltb-false x.steps budget e, same, (looks_round budget n).rises y, round_within budget n y (omega (arith, same, within))))

-- ---- the rounds end with one that does nothing
pub rounds_end : (k budget n : ℕ) (x : Progress) → budget < k + x.steps → x.steps ≤ budget → (round_done budget n (rounds_done k budget n x)).steps ≡ (rounds_done k budget n x).steps
unfolding rounds_done unless_idle
rounds_end zero budget n x enough within = absurd (omega arith)
rounds_end (suc k) budget n x enough within =
    let y = round_done budget n x in
    let more = (looks_round budget n).rises x in
    let under = round_within budget n x within in
    by_pick (λ (z : Progress). (round_done budget n z).steps ≡ z.steps) (eqb y.steps x.steps) _ _
    (λ e. let same = eqb-true y.steps x.steps e in idle_again budget n x within same)
    (λ e. rounds_end k budget n y (omega (arith, more, eqb-false y.steps x.steps e)) under)
