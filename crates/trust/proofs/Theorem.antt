-- In every system from a fresh one, for q not in p's view, the mark (p, q) is on exactly if at some moment since p's latest suspicion of q
-- began (that moment counted) q's view lacked p. By induction over the moves: a report of p begins the suspicion, a report of q without p
-- turns the mark on, and nothing else changes the two views or the mark.
use Prim.Native.Nat.{ℕ, ◌≤◌, ◌<◌}
use mathlib.Core.Path.{◌≡◌, ap}
use mathlib.Core.Bool.{Bool, true, false, ◌||◌, not}
use mathlib.Core.List.{List, [], ◌∷◌}
use native.Mathlib.Omega.{arith}
use Rattle.view.specs.declared.ProcessId.{ProcessId}
use Rattle.view.specs.Logic.{pick, is_one_of}
use Rattle.view.specs.View.{has, minus, least_of}
use Rattle.view.proofs.Laws.{one_of}
use Rattle.view.proofs.Sets.{has_number, has_inside, has-minus, everyone-has}
use Rattle.view.proofs.Members.{no_part, small_minus}
use Rattle.system.specs.declared.System.{System}
use Rattle.system.specs.System.{trust_at, may_trust}
use Rattle.system.specs.Fresh.{fresh_variables, fresh_system, fresh_of}
use Rattle.plan.specs.declared.Cut.{Cut}
use Rattle.plan.specs.declared.Step.{Step}
use Rattle.plan.specs.declared.Action.TheVariants.{Report}
use Rattle.step.proofs.Soundness.{Valid, sound_facts}
use Rattle.step.proofs.Cases.{Known, Doubts, Transition, outline}
use Rattle.step.proofs.Inversion.{transition}
use Rattle.step.proofs.Beginning.{fresh_variables_lem}
use Rattle.events.specs.Event.{Event, ran, made, moved, moves_in, grown}
use Rattle.events.proofs.Moves.{run_leads}
use Rattle.events.proofs.Runs.{done_sound, any_run, start_shape, shape_kept, run_size}
use Rattle.trust.specs.Trust.{lacks, earlier, moments, suspicion, lacked_once, lacked_since, Means, ComesBack, Early, TooEarly}
use Rattle.trust.proofs.Views.{view_at, Views, kept, renewed, views}
use Rattle.trust.proofs.Refused.{Refused13, refused_13}

-- ---- the walk back over the moments
-- the latest moment, and those before
since : ℕ → ℕ → System → List System → Bool
since p q s before = lacked_once p q (suspicion p q (s ∷ before))

since_more : (p q : ℕ) (s : System) (before : List System) → lacks s p q ≡ true
    → since p q s before ≡ (lacks s q p || lacked_once p q (suspicion p q before))
unfolding since suspicion lacked_once pick
since_more p q s before e = rw e

since_none : (p q : ℕ) (s : System) (before : List System) → lacks s p q ≡ false → since p q s before ≡ false
unfolding since suspicion lacked_once pick
since_none p q s before e = rw e

same_lacks : (s t : System) (p q : ℕ) → view_at t p ≡ view_at s p → lacks t p q ≡ lacks s p q
unfolding lacks
same_lacks s t p q e = ap (λ (v : ℕ). not (has v q)) e

-- one moment more, with the same views of p and q
since_same : (p q : ℕ) (s t : System) (before : List System) → lacks t p q ≡ true → view_at t p ≡ view_at s p → view_at t q ≡ view_at s q
    → since p q t (s ∷ before) ≡ since p q s before
unfolding since
since_same p q s t before e a b = grind (arith, since_more, same_lacks)

-- ---- one step
-- of each two processes
abbrev Meant : System → List System → Type 0
Meant s before = (p q : ℕ) → Known s p → Known s q → lacks s p q ≡ true → may_trust s p q ≡ since p q s before

module _ (s t : System) (before : List System) (p q : ℕ) (other : q ≡ p → ⊥) (e : lacks t p q ≡ true) (was : lacks s p q ≡ true → may_trust s p q ≡ since p q s before) where
  -- p is told a view without q: a suspicion begins, or goes on
  renewed_first : (v : ℕ) → view_at t p ≡ v → view_at t q ≡ view_at s q → Doubts s t p v → may_trust t p q ≡ since p q t (s ∷ before)
  unfolding lacks since
  renewed_first v new same d = grind (arith, since_none, since_more)

  -- q is told a view: one without p turns the mark on
  renewed_second : (v : ℕ) → view_at t q ≡ v → view_at t p ≡ view_at s p → 1 ≤ p → p ≤ s.n → Doubts s t q v → may_trust t p q ≡ since p q t (s ∷ before)
  unfolding lacks since
  renewed_second v new same low high d = grind (arith, since_more)

  -- neither
  unmoved : view_at t p ≡ view_at s p → view_at t q ≡ view_at s q → may_trust t p q ≡ may_trust s p q → may_trust t p q ≡ since p q t (s ∷ before)
  unmoved a b same = grind (arith, same_lacks, since_same)

-- a process is never without itself
apart : (s : System) → Valid s → (p q : ℕ) → Known s p → lacks s p q ≡ true → q ≡ p → ⊥
unfolding lacks
apart s valid p q k e same = grind (arith, sound_facts)

one_step : (s t : System) (before : List System) → t.n ≡ s.n → Valid t → Views s t → Meant s before → Meant t (s ∷ before)
one_step s t before size valid (kept same trust) was p q kp kq e = grind (arith, unmoved, apart)
one_step s t before size valid (renewed r v new same d) was p q kp kq e = grind (arith, apart, renewed_first, renewed_second, unmoved)

-- ---- from a fresh system of any number
abbrev start : ℕ → System
start n = (fresh_of n).system

-- nobody is suspected in it
fresh_meant : (n : ℕ) → n ≤ 8 → Meant (fresh_system n) []
unfolding lacks fresh_variables fresh_system
fresh_meant n small p q kp kq e = grind (arith, fresh_variables_lem, everyone-has)

start_meant : (n : ℕ) → Meant (start n) []
unfolding fresh_of pick
start_meant n p q kp kq e = grind (arith, fresh_meant, one_of)

start_small : (n : ℕ) → (start n).n ≤ 8
unfolding fresh_of fresh_system pick
start_small n = grind (arith, one_of)

-- ---- a run
meant : (n : ℕ) (es : List Event) → Meant (ran (start n) es) (grown earlier [] (start n) (moves_in (start n) es))
unfolding earlier
meant n es =
    any_run earlier Meant (λ s t before o v w r was. one_step s t before (outline r.change).effect.size w (views r.change) was)
    (start n) [] es (start_shape n) (start_meant n)

known : (n : ℕ) (es : List Event) (k : ℕ) → is_one_of (start n).n k ≡ true → Known (ran (start n) es) k
known n es k e = grind (arith, run_size, start_small, one_of)

pub meaning : (n : ℕ) (es : List Event) (p q : ℕ) → Means n es p q
unfolding lacked_since moments since
meaning n es p q a b = meant n es p q (known n es p a) (known n es q b)

-- a report that is done: p may trust whom it brings back, and both are processes of the system
brought_back : {s t : System} (before : List System) (p : ProcessId) (v q : ℕ) → Meant s before → Transition s t (Report p v) → lacks s p.0 q ≡ true → has v q ≡ true
    → since p.0 q s before ≡ true
unfolding lacks
brought_back before p v q was r gone named = grind (arith, has_number, has_inside)

pub comes_back : (n : ℕ) (es : List Event) (p : ProcessId) (v : ℕ) (cut : Cut) (q : ℕ) → ComesBack n es p v cut q
unfolding lacked_since moments since moved
comes_back n es p v cut q done =
    let s = ran (start n) es in
    let o : Step = record { action = Report p v; cut = cut } in
    let shape = shape_kept (start n) s (moves_in (start n) es) (run_leads (start n) es) (start_shape n) in
    let valid : Valid s = record { shape = shape; sound = done_sound s (made o) done } in
    brought_back (grown earlier [] (start n) (moves_in (start n) es)) p v q (meant n es) (transition s o valid done)

-- ---- a report that is refused with 13
-- of one that the report brings back and p may not trust
early_one : (s : System) (before : List System) (p v q : ℕ) → Meant s before → Refused13 s p v → has (minus (minus v (view_at s p)) (trust_at s p)) q ≡ true
    → (lacks s p q ≡ true) × (has v q ≡ true) × (since p q s before ≡ false)
unfolding lacks
early_one s before p v q was r left =
    grind (arith, sound_facts, one_of, has_number v q, has_inside s.n v q, has-minus (minus v (view_at s p)) (trust_at s p) q, has-minus v (view_at s p) q, was p q)

early : (n : ℕ) (es : List Event) (p v : ℕ) → v < 256 → Refused13 (ran (start n) es) p v → Early n es p v
unfolding lacked_since moments since
early n es p v small r =
    let s = ran (start n) es in
    let new = minus v (view_at s p) in
    let q = (least_of (minus new (trust_at s p))).0 in
    let left = no_part new (trust_at s p) (small_minus v (view_at s p) small) r.part in
    let a = early_one s (grown earlier [] (start n) (moves_in (start n) es)) p v q (meant n es) r left in
    record { process = q; gone = a.0; named = a.1; early = a.2 }

pub too_early : (n : ℕ) (es : List Event) (p : ProcessId) (v : ℕ) (cut : Cut) → TooEarly n es p v cut
too_early n es p v cut small refusal = early n es p.0 v small (refused_13 (ran (start n) es) p v cut refusal)
