-- In all steps from a fresh system of n processes, at most 124 n n takes and answers are done: for every list of events, refused ones
-- included. So many are due at the start, each that is done pays one, and no step makes more due.
use Prim.Native.Nat.{ℕ, ◌+◌, ◌*◌, ◌≤◌}
use mathlib.Core.Path.{◌≡◌, refl, sym, ◌∙◌, ap, subst}
use mathlib.Core.List.{List, [], ◌∷◌, ◌++◌, map}
use native.Mathlib.Omega.{arith}
use native.Mathlib.Nat.{mul-le-mul, mul-le-mul_right}
use lib.ListN.{length}
use Rattle.view.specs.Logic.{is_one_of}
use Rattle.view.proofs.Laws.{by_pick, one_of}
use Rattle.system.specs.declared.System.{System}
use Rattle.system.specs.Outcome.{Outcome}
use Rattle.system.specs.Fresh.{fresh_system, fresh_of}
use Rattle.plan.specs.declared.Step.{Step}
use Rattle.step.proofs.Frames.{Shape}
use Rattle.step.proofs.Cases.{outline}
use Rattle.step.proofs.Beginning.{nothing_recorded, nothing_waits}
use Rattle.events.specs.Event.{Event, does, ran, Move, made, moved, moves_in, grown}
use Rattle.events.proofs.Moves.{own_moves, run_grown}
use Rattle.events.proofs.Runs.{any_run, start_shape}
use Rattle.settling.specs.Steps.{take_or_answer, TakesOrAnswers}
use Rattle.bound.specs.Bound.{takes_then, takes_and_answers, Bound, Further, FurtherDone}
use Rattle.bound.proofs.Sums.{pairs, pairs_fall_at, pairs_at_most}
use Rattle.step.proofs.Weights.{is_self, count}
use Rattle.step.proofs.Stakes.{recorded, held, stake, fresh_mark, fresh_ahead}
use Rattle.bound.proofs.Dues.{due}
use Rattle.bound.proofs.Steps.{Paid, transition_pays}
use Rattle.settling.specs.Settle.{settling_budget}

-- ---- one step, and a run
-- what is due between all pairs of processes
abbrev pub total : System → ℕ
total s = pairs s.n (due s)

total_paid : {s t : System} {d : ℕ} → t.n ≡ s.n → Paid s t d → d + total t ≤ total s
total_paid {s} {t} {d} size k =
    let here : due t k.proposer k.other + d ≤ due s k.proposer k.other =
    omega (arith, rw (is_self k.proposer, is_self k.other) at (k.pays k.proposer k.other)) in
    subst (λ (n : ℕ). d + pairs n (due t) ≤ total s) (sym size)
    (omega (
      arith,
      pairs_fall_at s.n (due t) (due s) (λ a b. omega (arith, k.pays a b)) k.proposer k.other d k.from.low k.from.high k.to.low
          k.to.high
          here,
    ))

-- whatever is done, and what is due then, was due before
pub run_paid : (s : System) → Shape s → (es : List Event) → takes_and_answers s es + total (ran s es) ≤ total s
unfolding takes_and_answers takes_then
run_paid s shape es =
    any_run takes_then (λ t k. k + total t ≤ total s)
    (λ u t k o v w r paid. omega (arith, paid, total_paid (outline r.change).effect.size (transition_pays v.shape o.action r.change)))
    s 0 es shape (omega arith)

-- ---- at the start
module _ (n a : ℕ) (low : 1 ≤ a) (high : a ≤ 8) where
  -- 31 proposals, and four for each
  fresh_due : (b : ℕ) → due (fresh_system n) a b ≤ 124
  unfolding due stake held count recorded
  fresh_due b = grind (arith, fresh_mark, fresh_ahead, nothing_waits, nothing_recorded)

fresh_total : (n : ℕ) → n ≤ 8 → total (fresh_system n) ≤ n * (n * 124)
unfolding fresh_system
fresh_total n small = pairs_at_most n (due (fresh_system n)) 124 (λ a b low high. fresh_due n a low (omega arith) b)

-- ---- of any number n
start_total : (n : ℕ) → (total (fresh_of n).system ≤ 124 * n * n) × (total (fresh_of n).system ≤ settling_budget)
unfolding fresh_of
start_total n =
    by_pick (λ (a : Outcome). (total a.system ≤ 124 * n * n) × (total a.system ≤ settling_budget)) (is_one_of 8 n) _ _
    (λ e.
    let high = (one_of 8 n e).1 in
    let most = fresh_total n high in
    (omega (arith, most), omega (arith, most, mul-le-mul high (mul-le-mul_right 124 high))))
    (λ e. let most = fresh_total 0 (omega arith) in (omega (arith, most), omega (arith, most)))

all_paid : (n : ℕ) (es : List Event) → takes_and_answers (fresh_of n).system es ≤ total (fresh_of n).system
all_paid n es = omega (arith, run_paid (fresh_of n).system (start_shape n) es)

pub bound : (n : ℕ) (es : List Event) → Bound n es
bound n es = omega (arith, all_paid n es, (start_total n).0)

-- ---- more events
takes_on : (k : ℕ) (s : System) (ms : List Move) → grown takes_then k s ms ≡ k + grown takes_then 0 s ms
unfolding grown takes_then
takes_on k s [] = omega arith
takes_on k s (made o ∷ ms) =
    omega (arith, takes_on (k + take_or_answer o.action) (moved s (made o)).system ms, takes_on (0 + take_or_answer o.action) (moved s (made o)).system ms)

-- those that any further list does
pub further : (n : ℕ) (es more : List Event) → Further n es (takes_and_answers (ran (fresh_of n).system es) more)
unfolding takes_and_answers
further n es more =
    let s = (fresh_of n).system in
    let both = run_grown s es more takes_then 0 ∙ takes_on (takes_and_answers s es) (ran s es) (moves_in (ran s es) more) in
    let paid = all_paid n (es ++ more) in
    record { bound = omega (arith, both, paid, (start_total n).0); budget = omega (arith, both, paid, (start_total n).1) }

all_counted : (s : System) (os : List Step) → TakesOrAnswers os → grown takes_then 0 s (map made os) ≡ length os
unfolding grown takes_then
all_counted s [] each = refl
all_counted s (o ∷ os) each =
    let t = (moved s (made o)).system in
    omega (arith, takes_on (0 + take_or_answer o.action) t (map made os), each.0, all_counted t os each.1)

-- a further list of takes and answers, all done: its length
pub further_done : (n : ℕ) (es : List Event) → FurtherDone n es
unfolding takes_and_answers
further_done n es t os each l =
    let s = ran (fresh_of n).system es in
    subst (Further n es) (ap (grown takes_then 0 s) (own_moves s t os l).0 ∙ all_counted s os each) (further n es (map does os))
