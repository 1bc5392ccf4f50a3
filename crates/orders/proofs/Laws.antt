-- A turn, move by move: what one more move adds to it, and how many runs there are at most.
use Prim.Native.Nat.{ℕ, zero, suc, ◌+◌, ◌-◌, ◌*◌, ◌^◌, ◌≤◌, ◌<◌, min}
use mathlib.Core.Path.{◌≡◌, refl, sym, ◌∙◌, ap}
use mathlib.Core.Bool.{Bool, true, false}
use mathlib.Core.List.{List, [], ◌∷◌, ◌++◌, map, append_assoc, append-nil}
use native.Mathlib.Omega.{arith}
use native.Mathlib.Nat.{mul-le-mul_right, suc-mul, pow-suc, pow-le-pow_right}
use native.Mathlib.Numerals.{add-one, sub-one}
use lib.Dec.{eqb}
use Rattle.std.specs.Prelude.{Result, Ok, Err}
use Rattle.std.specs.Result.{is_ok}
use lib.ListN.{length, length-append, length-map}
use Rattle.view.specs.Logic.{pick, is_one_of}
use Rattle.view.specs.View.{everyone}
use Rattle.view.proofs.Laws.{by_pick}
use Rattle.system.specs.declared.System.{System}
use Rattle.system.specs.declared.refusal.Refusal.{Refusal}
use Rattle.system.specs.Refusal.{answer_number}
use Rattle.system.specs.Outcome.{Outcome}
use Rattle.sound.specs.Sound.{sound_system}
use Rattle.plan.specs.declared.Action.{Action}
use Rattle.plan.specs.Cut.{whole}
use Rattle.step.specs.Step.{stepped}
use Rattle.image.specs.Image.{image_width, system_in}
use Rattle.alternatives.proofs.Carrying.{some_number}
use Rattle.engine.specs.Engine.{Attempts}
use Rattle.orders.specs.declared.RunCounts.{RunCounts}
use Rattle.orders.specs.Orders.{link_moves, process_moves, Choice, pass, make, Run, ended_at, begun_with, begun_by, by_moves, turned, link_turn, process_turn, goes_beyond, entered_among, run_counts_of, together, FitsTogether}
use Rattle.orders.specs.Walks.{link_move_at, process_move_at, Walks, Tries}
use Rattle.orders.proofs.Moves.{numbered, places_length, link_places, process_places, few_link_moves, few_process_moves}

-- ---- one move on a copy
pub tried_move : (o : Action) (b c d : List ℕ) (r : Result (Unit {0}) Refusal) (t : Bool) → sound_system (system_in b) ≡ true → c ≡ b
    → Attempts (whole o) c (answer_number r) d → t ≡ is_ok r → Tries o (system_in b) t d
tried_move o b c d r t sound same a told =
    let e : sound_system (system_in c) ≡ true = rw same sound in
    let out : record { refusal = answer_number r; system = system_in d } ≡ stepped (system_in b) (whole o) = (a.steps e).outcome ∙ ap (λ (l : List ℕ). stepped (system_in l) (whole o)) same in
    record {
      answer = told ∙ done r ∙ ap (λ (x : Outcome). eqb x.refusal 0) out;
      system = ap (λ (x : Outcome). x.system) out;
      stays = a.stays e;
    }
  where
    done : (x : Result (Unit {0}) Refusal) → is_ok x ≡ eqb (answer_number x) 0
    done (Ok u) = refl
    done (Err k) = sym (some_number k)

-- ---- the two counts
pub entered_append : (n : ℕ) (a b : List Run) → entered_among n (a ++ b) ≡ entered_among n a + entered_among n b
unfolding entered_among
entered_append n [] b = omega arith
entered_append n (r ∷ a) b = omega (arith, entered_append n a b)

pub ends_append : (n : ℕ) (a b : List Run)
    → run_counts_of n (a ++ b) ≡ record { runs = (run_counts_of n a).runs + (run_counts_of n b).runs; entered = (run_counts_of n a).entered + (run_counts_of n b).entered }
unfolding run_counts_of
ends_append n a b = rw (length-append a b, entered_append n a b)

-- a choice before each run changes neither
entered_begun : (n : ℕ) (c : Choice) (a : List Run) → entered_among n (map (begun_with c) a) ≡ entered_among n a
unfolding entered_among
entered_begun n c [] = refl
entered_begun n c (r ∷ a) = ap (λ (k : ℕ). pick (goes_beyond n r.end) 1 0 + k) (entered_begun n c a)

ends_begun : (n : ℕ) (c : Choice) (a : List Run) → run_counts_of n (map (begun_with c) a) ≡ run_counts_of n a
unfolding run_counts_of
ends_begun n c a = rw (length-map a (begun_with c), entered_begun n c a)

pub entered_few : (n : ℕ) (a : List Run) → entered_among n a ≤ length a
unfolding entered_among
entered_few n [] = omega arith
entered_few n (r ∷ a) = by_pick (λ (k : ℕ). k + entered_among n a ≤ suc (length a)) (goes_beyond n r.end) 1 0 (λ e. omega (arith, entered_few n a)) (λ e. omega (arith, entered_few n a))

-- ---- the moves of a turn
module _ (next : System → List Run) (s : System) where
  moves_append : (os : List Action) (o : Action) → by_moves next s (os ++ (o ∷ [])) ≡ by_moves next s os ++ begun_by next o (stepped s (whole o))
  unfolding by_moves
  moves_append [] o = append-nil _
  moves_append (p ∷ os) o = ap (λ (l : List Run). begun_by next p (stepped s (whole p)) ++ l) (moves_append os o) ∙ sym (append_assoc (begun_by next p (stepped s (whole p))) (by_moves next s os) _)

  -- one place more
  pub turn_more : (f : ℕ → Action) (k : ℕ) → turned next s (numbered f (k + 1)) ≡ turned next s (numbered f k) ++ begun_by next (f k) (stepped s (whole (f k)))
  unfolding turned numbered
  turn_more f k =
      rw (add-one, moves_append (numbered f k) (f k)) (sym (append_assoc (map (begun_with pass) (next s)) (by_moves next s (numbered f k)) (begun_by next (f k) (stepped s (whole (f k))))))

  pub no_move : (n : ℕ) (f : ℕ → Action) → run_counts_of n (turned next s (numbered f 0)) ≡ run_counts_of n (next s)
  unfolding turned numbered by_moves
  no_move n f = ap (run_counts_of n) (append-nil (map (begun_with pass) (next s))) ∙ ends_begun n pass (next s)

  module _ (n k : ℕ) (f : ℕ → Action) (o : Action) (c : List ℕ) (r : Bool) (t : Tries o s r c) (is : o ≡ f k) (total : RunCounts)
      (so_far : total ≡ run_counts_of n (turned next s (numbered f k))) where
    pub move_refused : r ≡ false → total ≡ run_counts_of n (turned next s (numbered f (k + 1)))
    unfolding begun_by pick
    move_refused off =
        so_far ∙ ap (run_counts_of n) (sym (turn_more f k ∙ rw (← is, ← t.answer, off) (append-nil _)))

    pub move_done : r ≡ true → (more : RunCounts) → more ≡ run_counts_of n (next (system_in c))
        → record { runs = total.runs + more.runs; entered = total.entered + more.entered } ≡ run_counts_of n (turned next s (numbered f (k + 1)))
    unfolding begun_by pick
    move_done on more after =
        rw (so_far, after, t.system, ← ends_begun n (make o) (next (stepped s (whole o)).system))
        (sym (ends_append n (turned next s (numbered f k)) (map (begun_with (make o)) (next (stepped s (whole o)).system)))
        ∙ ap (run_counts_of n) (sym (turn_more f k ∙ rw (← is, ← t.answer, on))))

  -- ---- how many runs at most
  module _ (m : ℕ) (few : (t : System) → length (next t) ≤ m) where
    one_few : (o : Action) (a : Outcome) → length (begun_by next o a) ≤ m
    unfolding begun_by
    one_few o a = by_pick (λ (l : List Run). length l ≤ m) (eqb a.refusal 0) _ _ (λ e. rw (length-map (next a.system) (begun_with (make o))) (few a.system)) (λ e. omega arith)

    moves_few : (os : List Action) → length (by_moves next s os) ≤ length os * m
    unfolding by_moves
    moves_few [] = omega arith
    moves_few (o ∷ os) =
        omega (arith, length-append (begun_by next o (stepped s (whole o))) (by_moves next s os), one_few o (stepped s (whole o)), moves_few os, suc-mul (length os) m)

    pub turn_few : (os : List Action) (j : ℕ) → length os ≤ j → length (turned next s os) ≤ suc j * m
    unfolding turned
    turn_few os j h =
        omega (arith, length-append (map (begun_with pass) (next s)) (by_moves next s os), length-map (next s) (begun_with pass), few s, moves_few os, suc-mul j m, mul-le-mul_right m h)

-- a turn has at most nine choices
nine : (d : ℕ) (next : System → List Run) (s : System) → ((t : System) → length (next t) ≤ 9 ^ d) → (os : List Action) → length os ≤ 8
    → length (turned next s os) ≤ 9 ^ suc d
nine d next s few os h = omega (arith, turn_few next s (9 ^ d) few os 8 h, pow-suc 9 d)

link_list_few : (n : ℕ) → is_one_of 2 n ≡ true → length (link_moves n) ≤ 8
link_list_few n e = rw (link_places n e, places_length (link_move_at (everyone n + 1)) (n * (everyone n + 1))) (few_link_moves n _ e refl)

process_list_few : (n : ℕ) → is_one_of 2 n ≡ true → length (process_moves n) ≤ 8
process_list_few n e = rw (process_places n e, places_length (process_move_at n) (2 * n * n)) (few_process_moves n e)

pub turns_few : (d n : ℕ) → is_one_of 2 n ≡ true
    → ((s : System) → length (link_turn d n s) ≤ 9 ^ d) × ((s : System) → length (process_turn d n s) ≤ 9 ^ d)
unfolding link_turn
turns_few zero n e = (λ s. omega arith, λ s. omega arith)
turns_few (suc d) n e =
    (λ s. nine d (λ t. process_turn d n t) s (turns_few d n e).1 (link_moves n) (link_list_few n e), λ s. nine d (λ t. link_turn d n t) s (turns_few d n e).0 (process_moves n) (process_list_few n e))

-- seven turns more
pub seven : (d m : ℕ) → d ≤ 7 → m ≤ 9 ^ d → m ≤ 4782969
seven d m h l = omega (arith, pow-le-pow_right {n = 9} (omega arith) {i = d} {j = 7} h)

-- so that sums stay small, move by move
pub sum_fits : (next : System → List Run) (s : System) (n k : ℕ) (f : ℕ → Action) → ((t : System) → length (next t) ≤ 4782969) → k < 8
    → (total more : RunCounts) → total ≡ run_counts_of n (turned next s (numbered f k)) → (t : System) → more ≡ run_counts_of n (next t)
    → (total.runs + more.runs ≤ 4294967295) × (total.entered + more.entered ≤ 4294967295)
unfolding run_counts_of
sum_fits next s n k f few h total more so_far t after =
    let all = turn_few next s 4782969 few (numbered f k) 8 (omega (arith, places_length f k)) in
    let one = few t in
    rw (so_far, after) (
      omega (arith, all, one),
      omega (arith, all, one, entered_few n (turned next s (numbered f k)), entered_few n (next t)),
    )

-- where both sums fit, none stays at the end
pub whole_sum : (a b : RunCounts) → FitsTogether a b → together a b ≡ record { runs = a.runs + b.runs; entered = a.entered + b.entered }
whole_sum a b fits =
    let runs : min (a.runs + b.runs) 4294967295 ≡ a.runs + b.runs = omega (arith, fits.0) in
    let entered : min (a.entered + b.entered) 4294967295 ≡ a.entered + b.entered = omega (arith, fits.1) in
    rw (runs, entered) refl

-- ---- the last turn, and one before it
pub last_link : (d n : ℕ) (s : System) → d ≡ 0 → link_turn d n s ≡ ended_at s ∷ []
unfolding link_turn
last_link d n s e = rw e

pub last_process : (d n : ℕ) (s : System) → d ≡ 0 → process_turn d n s ≡ ended_at s ∷ []
unfolding link_turn
last_process d n s e = rw e

pub link_whole : (d n each k : ℕ) (s : System) → (d ≡ 0 → ⊥) → is_one_of 2 n ≡ true → each ≡ everyone n + 1 → k ≡ n * each
    → turned (λ t. process_turn (d - 1) n t) s (numbered (link_move_at each) k) ≡ link_turn d n s
unfolding link_turn
link_whole zero n each k s h e is all = absurd (h refl)
link_whole (suc d) n each k s h e is all = rw (sub-one, all, is, ← link_places n e)

pub process-whole : (d n k : ℕ) (s : System) → (d ≡ 0 → ⊥) → is_one_of 2 n ≡ true → k ≡ 2 * n * n
    → turned (λ t. link_turn (d - 1) n t) s (numbered (process_move_at n) k) ≡ process_turn d n s
unfolding link_turn
process-whole zero n k s h e all = absurd (h refl)
process-whole (suc d) n k s h e all = rw (sub-one, all, ← process_places n e)

-- one turn less, on the same bytes or on others
pub shallower : (n d : ℕ) (b c : List ℕ) → Walks n d b → length c ≡ image_width → sound_system (system_in c) ≡ true → Walks n (d - 1) c
shallower n d b c w long sound = record { long = long; sound = sound; few = w.few; shallow = omega (arith, w.shallow) }
