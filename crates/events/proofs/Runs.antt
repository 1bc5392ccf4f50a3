-- What is so of every run: one induction for all theorems. A step that is done goes by the eleven transitions, and there is nothing else:
-- refused events, an unsound system and any number of processes want no case.
use Prim.Native.Nat.{ℕ}
use mathlib.Core.Path.{◌≡◌, refl, sym, ◌∙◌, ap, subst}
use mathlib.Core.Bool.{true, false}
use mathlib.Core.List.{List, [], ◌∷◌}
use native.Mathlib.Omega.{arith}
use Rattle.view.specs.Logic.{is_one_of}
use Rattle.view.proofs.Laws.{by_pick, by_test}
use Rattle.system.specs.declared.System.{System}
use Rattle.system.specs.Outcome.{Outcome, done, refused}
use Rattle.system.specs.System.{variables_at}
use Rattle.system.specs.Fresh.{fresh_system, fresh_of}
use Rattle.sound.specs.Sound.{sound_system}
use Rattle.plan.specs.declared.Step.{Step}
use Rattle.step.specs.Step.{stepped}
use Rattle.step.proofs.Frames.{Shape}
use Rattle.step.proofs.Soundness.{Valid}
use Rattle.step.proofs.Cases.{Transition}
use Rattle.step.proofs.Inversion.{transition}
use Rattle.step.proofs.Outcomes.{unsound_is_1, size_kept, stays_stopped}
use Rattle.step.proofs.SoundSteps.{step_sound}
use Rattle.step.proofs.Beginning.{fresh_shape, fresh_valid}
use Rattle.events.specs.Event.{Event, ran, Move, made, moved, moves_in, grown, AllSo, Leads}
use Rattle.events.proofs.Moves.{run_leads}

-- a step that is done
pub record Made (s t : System) (o : Step) : Type 0 where
  pub done : stepped s o ≡ done t
  pub change : Transition s t o.action

made_done : (s : System) (o : Step) → Valid s → (stepped s o).refusal ≡ 0 → Made s (stepped s o).system o
made_done s o valid e = record { done = ap (λ (k : ℕ). refused k (stepped s o).system) e; change = transition s o valid e }

-- only in a sound system is anything done
pub done_sound : (s : System) (m : Move) → (moved s m).refusal ≡ 0 → sound_system s ≡ true
unfolding moved
done_sound s (made o) e = by_test (sound_system s) (λ z. z) (λ z. let one : (stepped s o).refusal ≡ 1 = ap (λ (a : Outcome). a.refusal) (unsound_is_1 s o z) in absurd (omega (arith, e, one)))

pub moved_valid : (s : System) (m : Move) → Valid s → (moved s m).refusal ≡ 0 → Valid (moved s m).system
unfolding moved
moved_valid s (made o) valid e = step_sound s o valid

moved_size : (s : System) (m : Move) → (moved s m).refusal ≡ 0 → (moved s m).system.n ≡ s.n
unfolding moved
moved_size s (made o) e = size_kept s o

-- ---- the principle
-- What is so of the system and of a value that grows with its moves, after each step that is done and of which H is so, is so after every run
-- whose moves are so.
module _ {G : Type 0} (grow : G → System → Move → G) (H : System → Move → Type 0) (P : System → G → Type 0)
    (by_step : (s t : System) (g : G) (o : Step) → Valid s → Valid t → Made s t o → H s (made o) → P s g → P t (grow g s (made o)))
  where
    one_move : (s : System) (g : G) (m : Move) → Valid s → (moved s m).refusal ≡ 0 → H s m → P s g → P (moved s m).system (grow g s m)
    unfolding moved
    one_move s g (made o) valid e h p = by_step s (stepped s o).system g o valid (moved_valid s (made o) valid e) (made_done s o valid e) h p

    pub every_move : (s t : System) (g : G) (ms : List Move) → Shape s → Leads s ms t → AllSo H s ms → P s g → P t (grown grow g s ms)
    unfolding grown
    every_move s t g [] shape l h p = subst (λ (x : System). P x g) l p
    every_move s t g (m ∷ ms) shape l h p =
        let valid : Valid s = record { shape = shape; sound = done_sound s m l.0 } in
        every_move (moved s m).system t (grow g s m) ms (moved_valid s m valid l.0).shape l.1 h.1 (one_move s g m valid l.0 h.0 p)

    pub every_run : (s : System) (g : G) (es : List Event) → Shape s → AllSo H s (moves_in s es) → P s g → P (ran s es) (grown grow g s (moves_in s es))
    every_run s g es shape = every_move s (ran s es) g (moves_in s es) shape (run_leads s es)

-- where nothing is asked of the moves
abbrev pub Free : System → Move → Type 0
Free s m = Unit {0}

pub free_moves : (s : System) (ms : List Move) → AllSo Free s ms
free_moves s [] = tt
free_moves s (m ∷ ms) = (tt, free_moves (moved s m).system ms)

module _ {G : Type 0} (grow : G → System → Move → G) (P : System → G → Type 0)
    (by_step : (s t : System) (g : G) (o : Step) → Valid s → Valid t → Made s t o → P s g → P t (grow g s (made o)))
  where
    pub any_move : (s t : System) (g : G) (ms : List Move) → Shape s → Leads s ms t → P s g → P t (grown grow g s ms)
    any_move s t g ms shape l p = every_move grow Free P (λ u v h o a b r f. by_step u v h o a b r) s t g ms shape l (free_moves s ms) p

    pub any_run : (s : System) (g : G) (es : List Event) → Shape s → P s g → P (ran s es) (grown grow g s (moves_in s es))
    any_run s g es shape p = any_move s (ran s es) g (moves_in s es) shape (run_leads s es) p

-- nothing grows
module _ (P : System → Type 0) (by_step : (s t : System) (o : Step) → Valid s → Valid t → Made s t o → P s → P t) where
  pub kept_by_moves : (s t : System) (ms : List Move) → Shape s → Leads s ms t → P s → P t
  kept_by_moves s t ms = any_move {G = Unit {0}} (λ g x m. tt) (λ x g. P x) (λ u v g o a b r. by_step u v o a b r) s t tt ms

  pub kept_by_runs : (s : System) (es : List Event) → Shape s → P s → P (ran s es)
  kept_by_runs s es shape = kept_by_moves s (ran s es) (moves_in s es) shape (run_leads s es)

-- a fresh system of any number
pub start_shape : (n : ℕ) → Shape (fresh_of n).system
unfolding fresh_of
start_shape n = by_pick (λ (a : Outcome). Shape a.system) (is_one_of 8 n) _ _ (λ e. fresh_shape n) (λ e. fresh_shape 0)

-- ---- what all theorems need
-- soundness, the shape and the number of processes stay
pub run_valid : (s : System) → Valid s → (es : List Event) → Valid (ran s es)
run_valid s valid es = kept_by_runs Valid (λ u t o v w r p. w) s es valid.shape valid

pub shape_kept : (s t : System) (ms : List Move) → Leads s ms t → Shape s → Shape t
shape_kept s t ms l shape = kept_by_moves Shape (λ u v o a b r p. b.shape) s t ms shape l shape

sized : (s t : System) (ms : List Move) → Leads s ms t → t.n ≡ s.n
sized s t [] l = ap (λ (x : System). x.n) (sym l)
sized s t (m ∷ ms) l = sized (moved s m).system t ms l.1 ∙ moved_size s m l.0

pub run_size : (s : System) (es : List Event) → (ran s es).n ≡ s.n
run_size s es = sized s (ran s es) (moves_in s es) (run_leads s es)

-- every system that events reach from a fresh one of 1 to 8 is sound
pub run_sound : (n : ℕ) → is_one_of 8 n ≡ true → (es : List Event) → sound_system (ran (fresh_system n) es) ≡ true
run_sound n e es = (run_valid (fresh_system n) (fresh_valid n e) es).sound

-- a process that has stopped has stopped for good: it is so after every list of events
pub stopped_for_good : (s : System) → Valid s → (es : List Event) (k : ℕ) → (variables_at s k).crashed ≡ true → (variables_at (ran s es) k).crashed ≡ true
stopped_for_good s valid es k =
    kept_by_runs (λ (x : System). (variables_at x k).crashed ≡ true) (λ u t o v w r crashed. stays_stopped r.change k crashed) s es valid.shape

-- nothing is ever done in a system that is not sound
unsound_moves : (s t : System) (ms : List Move) → sound_system s ≡ false → Leads s ms t → ms ≡ []
unsound_moves s t [] e l = refl
unsound_moves s t (m ∷ ms) e l = absurd (let z : true ≡ false = sym (done_sound s m l.0) ∙ e in cc)

pub unsound_stays : (s : System) → sound_system s ≡ false → (es : List Event) → (moves_in s es ≡ []) × (ran s es ≡ s)
unsound_stays s e es =
    let none = unsound_moves s (ran s es) (moves_in s es) e (run_leads s es) in
    (none, sym (subst (λ (ms : List Move). Leads s ms (ran s es)) none (run_leads s es)))
