-- Every event that is done is its moves, and one that is refused is nothing; and so every run is a list of moves.
use mathlib.Core.Path.{◌≡◌, refl, sym, ◌∙◌, ap, subst}
use mathlib.Core.List.{List, [], ◌∷◌, ◌++◌, map, append_assoc}
use mathlib.Core.Logic.{⊎_elim}
use borrow.Author.Tests.{eqb-true, eqb-false}
use lib.Dec.{eqb}
use Rattle.view.specs.Logic.{pick}
use Rattle.view.proofs.Laws.{by_pick}
use Rattle.system.specs.declared.System.{System}
use Rattle.system.specs.Outcome.{Outcome}
use Rattle.plan.specs.declared.Step.{Step}
use Rattle.step.specs.Step.{stepped}
use Rattle.step.proofs.Outcomes.{zero_or_same}
use Rattle.events.specs.Event.{Event, does, happened, ran, Move, made, moved, moves_of, moves_then, moves_in, grown, AllSo, Leads}

pub leads_on : (s t u : System) (ms ns : List Move) → Leads s ms t → Leads t ns u → Leads s (ms ++ ns) u
leads_on s t u [] ns a b = subst (λ (x : System). Leads x ns u) (sym a) b
leads_on s t u (m ∷ ms) ns a b = (a.0, leads_on (moved s m).system t u ms ns a.1 b)

-- what an event does: its moves, or nothing
abbrev pub Does : System → List Move → Outcome → Type 0
Does s ms a = (a.refusal ≡ 0 → Leads s ms a.system) × ((a.refusal ≡ 0 → ⊥) → a.system ≡ s)

step_does : (s : System) (o : Step) → Does s (made o ∷ []) (stepped s o)
unfolding moved
step_does s o = ((λ e. (e, refl)), (λ n. ⊎_elim (λ e. absurd (n e)) (λ same. same) (zero_or_same s o)))

-- every event
pub event_does : (s : System) (e : Event) → Does s (moves_of e) (happened s e)
unfolding happened moves_of
event_does s (does o) = step_does s o

-- ---- a run is a list of moves
pub run_leads : (s : System) (es : List Event) → Leads s (moves_in s es) (ran s es)
unfolding moves_then moves_in ran
run_leads s [] = refl
run_leads s (e ∷ es) =
    let t = (happened s e).system in
    leads_on s t (ran t es) (pick (eqb (happened s e).refusal 0) (moves_of e) []) (moves_in t es)
    (by_pick (λ (ms : List Move). Leads s ms t) (eqb (happened s e).refusal 0) (moves_of e) []
    (λ z. (event_does s e).0 (eqb-true (happened s e).refusal 0 z))
    (λ z. sym ((event_does s e).1 (eqb-false (happened s e).refusal 0 z))))
    (run_leads t es)

pub ran_append : (s : System) (es fs : List Event) → ran s (es ++ fs) ≡ ran (ran s es) fs
unfolding ran
ran_append s [] fs = refl
ran_append s (e ∷ es) fs = ran_append (happened s e).system es fs

pub moves_append : (s : System) (es fs : List Event) → moves_in s (es ++ fs) ≡ moves_in s es ++ moves_in (ran s es) fs
unfolding ran moves_then moves_in
moves_append s [] fs = refl
moves_append s (e ∷ es) fs =
    let t = (happened s e).system in
    ap (λ (ms : List Move). pick (eqb (happened s e).refusal 0) (moves_of e) [] ++ ms) (moves_append t es fs)
    ∙ sym (append_assoc (pick (eqb (happened s e).refusal 0) (moves_of e) []) (moves_in t es) (moves_in (ran t es) fs))

-- ---- moves one after the other
pub grown_on : {G : Type 0} (grow : G → System → Move → G) (g : G) (s t : System) (ms ns : List Move) → Leads s ms t
    → grown grow g s (ms ++ ns) ≡ grown grow (grown grow g s ms) t ns
unfolding grown
grown_on grow g s t [] ns l = ap (λ (x : System). grown grow g x ns) l
grown_on grow g s t (m ∷ ms) ns l = grown_on grow (grow g s m) (moved s m).system t ms ns l.1

pub so_apart : (H : System → Move → Type 0) (s t : System) (ms ns : List Move) → Leads s ms t → AllSo H s (ms ++ ns) → AllSo H s ms × AllSo H t ns
so_apart H s t [] ns l h = (tt, subst (λ (x : System). AllSo H x ns) l h)
so_apart H s t (m ∷ ms) ns l h = let rest = so_apart H (moved s m).system t ms ns l.1 h.1 in ((h.0, rest.0), rest.1)

pub so_joined : (H : System → Move → Type 0) (s t : System) (ms ns : List Move) → Leads s ms t → AllSo H s ms → AllSo H t ns → AllSo H s (ms ++ ns)
so_joined H s t [] ns l a b = subst (λ (x : System). AllSo H x ns) (sym l) b
so_joined H s t (m ∷ ms) ns l a b = (a.0, so_joined H (moved s m).system t ms ns l.1 a.1 b)

-- so of lists of events
module _ (s : System) (es fs : List Event) where
  pub run_apart : (H : System → Move → Type 0) → AllSo H s (moves_in s (es ++ fs)) → AllSo H s (moves_in s es) × AllSo H (ran s es) (moves_in (ran s es) fs)
  run_apart H h = so_apart H s (ran s es) (moves_in s es) (moves_in (ran s es) fs) (run_leads s es) (subst (AllSo H s) (moves_append s es fs) h)

  pub run_joined : (H : System → Move → Type 0) → AllSo H s (moves_in s es) → AllSo H (ran s es) (moves_in (ran s es) fs) → AllSo H s (moves_in s (es ++ fs))
  run_joined H a b = subst (AllSo H s) (sym (moves_append s es fs)) (so_joined H s (ran s es) (moves_in s es) (moves_in (ran s es) fs) (run_leads s es) a b)

  pub run_grown : {G : Type 0} (grow : G → System → Move → G) (g : G)
      → grown grow g s (moves_in s (es ++ fs)) ≡ grown grow (grown grow g s (moves_in s es)) (ran s es) (moves_in (ran s es) fs)
  run_grown grow g = ap (grown grow g s) (moves_append s es fs) ∙ grown_on grow g s (ran s es) (moves_in s es) (moves_in (ran s es) fs) (run_leads s es)

-- a list of steps, all of them done, is its own moves
pub own_moves : (s t : System) (os : List Step) → Leads s (map made os) t → (moves_in s (map does os) ≡ map made os) × (ran s (map does os) ≡ t)
unfolding moves_then moves_in moves_of happened moved ran pick
own_moves s t [] l = (refl, l)
own_moves s t (o ∷ os) l =
    let rest = own_moves (stepped s o).system t os l.1 in
    (rw (l.0, rest.0) refl, rest.1)

-- ---- two values that grow side by side
abbrev pub beside : {F G : Type 0} → (F → System → Move → F) → (G → System → Move → G) → F × G → System → Move → F × G
beside f g a s m = (f a.0 s m, g a.1 s m)

pub grown_beside : {F G : Type 0} (f : F → System → Move → F) (g : G → System → Move → G) (a : F) (b : G) (s : System) (ms : List Move)
    → grown (beside f g) (a, b) s ms ≡ (grown f a s ms, grown g b s ms)
unfolding grown
grown_beside f g a b s [] = refl
grown_beside f g a b s (m ∷ ms) = grown_beside f g (f a s m) (g b s m) (moved s m).system ms
