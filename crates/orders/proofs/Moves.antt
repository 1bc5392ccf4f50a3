-- The lists of moves, place by place, for 1 or 2 processes.
use Prim.Native.Nat.{ℕ, zero, suc, ◌+◌, ◌*◌, ◌≤◌}
use mathlib.Core.Path.{◌≡◌, refl, sym, ◌∙◌}
use mathlib.Core.Bool.{Bool, true, false, ◌&&◌, ◌||◌, not}
use mathlib.Core.List.{List, [], ◌∷◌, ◌++◌}
use native.Mathlib.Omega.{arith}
use borrow.Author.Tests.{leb-true, leb-false, lt-ltb, le-ltb, not-true, not-false}
use lib.Dec.{leb, ltb}
use lib.ListN.{length, length-append}
use Rattle.view.specs.Logic.{pick, each_up_to, is_one_of}
use Rattle.view.specs.View.{everyone}
use Rattle.view.proofs.Laws.{one_of, is_one_of_lem, and_left, and_right, by_test}
use Rattle.orders.specs.Orders.{with_report, with_link_moves_at, link_moves, with_take, with_takes_at, with_answer, with_answers_at, process_moves}
use Rattle.orders.specs.Walks.{link_move_at, process_move_at}

pub one_or_two : (P : ℕ → Type 0) (n : ℕ) → is_one_of 2 n ≡ true → P 1 → P 2 → P n
one_or_two P zero e a b = absurd (omega (arith, (one_of 2 zero e).0))
one_or_two P (suc zero) e a b = a
one_or_two P (suc (suc zero)) e a b = b
one_or_two P (suc (suc (suc n))) e a b = absurd (omega (arith, (one_of 2 (suc (suc (suc n))) e).1))

pub one_of_eight : (n : ℕ) → is_one_of 2 n ≡ true → is_one_of 8 n ≡ true
one_of_eight n e = one_or_two (λ m. is_one_of 8 m ≡ true) n e refl refl

-- what is not refused
pub walkable : (n d : ℕ) → is_one_of 8 n ≡ true → (leb n 2 && leb d 8) ≡ true → (is_one_of 2 n ≡ true) × (d ≤ 8)
walkable n d size both =
    (is_one_of_lem 2 n (one_of 8 n size).0 (leb-true n 2 (and_left (leb n 2) (leb d 8) both)), leb-true d 8 (and_right (leb n 2) (leb d 8) both))

-- the two limits, tested the other way round
past : (a b : ℕ) → ltb b a ≡ not (leb a b)
past a b = by_test (leb a b) (λ e. rw (e, le-ltb b a (leb-true a b e)) refl) (λ e. rw (e, lt-ltb b a (leb-false a b e)) refl)

too_deep : (n d : ℕ) → (ltb 2 n || ltb 8 d) ≡ not (leb n 2 && leb d 8)
too_deep n d = rw (past n 2, past d 8) (either (leb n 2) (leb d 8))
  where
    either : (a b : Bool) → (not a || not b) ≡ not (a && b)
    either true b = refl
    either false b = refl

pub none_too_deep : (n d : ℕ) → (ltb 2 n || ltb 8 d) ≡ false → (leb n 2 && leb d 8) ≡ true
none_too_deep n d e = not-false _ (sym (too_deep n d) ∙ e)

pub some_too_deep : (n d : ℕ) → (ltb 2 n || ltb 8 d) ≡ true → (leb n 2 && leb d 8) ≡ false
some_too_deep n d e = not-true _ (sym (too_deep n d) ∙ e)

-- what f gives for 0, 1, and so on: m of them
unfoldable pub numbered : {A : Type 0} → (ℕ → A) → ℕ → List A
numbered f zero = []
numbered f (suc m) = numbered f m ++ (f m ∷ [])

pub places_length : {A : Type 0} (f : ℕ → A) (m : ℕ) → length (numbered f m) ≡ m
unfolding numbered
places_length f zero = refl
places_length f (suc m) = omega (arith, length-append (numbered f m) (f m ∷ []), places_length f m)

pub few_views : (n each : ℕ) → is_one_of 2 n ≡ true → each ≡ everyone n + 1 → (2 ≤ each) × (each ≤ 4)
unfolding everyone pick
few_views n each e is = rw is (one_or_two (λ m. (2 ≤ everyone m + 1) × (everyone m + 1 ≤ 4)) n e (omega arith, omega arith) (omega arith, omega arith))

pub link_places : (n : ℕ) → is_one_of 2 n ≡ true → link_moves n ≡ numbered (link_move_at (everyone n + 1)) (n * (everyone n + 1))
unfolding everyone pick each_up_to with_report with_link_moves_at link_moves link_move_at numbered
link_places n e = one_or_two (λ m. link_moves m ≡ numbered (link_move_at (everyone m + 1)) (m * (everyone m + 1))) n e refl refl

pub process_places : (n : ℕ) → is_one_of 2 n ≡ true → process_moves n ≡ numbered (process_move_at n) (2 * n * n)
unfolding pick each_up_to with_take with_takes_at with_answer with_answers_at process_moves process_move_at numbered
process_places n e = one_or_two (λ m. process_moves m ≡ numbered (process_move_at m) (2 * m * m)) n e refl refl

-- how many they are at most
pub few_link_moves : (n each : ℕ) → is_one_of 2 n ≡ true → each ≡ everyone n + 1 → n * each ≤ 8
unfolding everyone pick
few_link_moves n each e is = rw is (one_or_two (λ m. m * (everyone m + 1) ≤ 8) n e (omega arith) (omega arith))

pub few_channels : (n : ℕ) → is_one_of 2 n ≡ true → n * n ≤ 4
few_channels n e = one_or_two (λ m. m * m ≤ 4) n e (omega arith) (omega arith)

pub few_process_moves : (n : ℕ) → is_one_of 2 n ≡ true → 2 * n * n ≤ 8
few_process_moves n e = one_or_two (λ m. 2 * m * m ≤ 8) n e (omega arith) (omega arith)
