-- The moves that a turn tries: each is of its kind, no two are alike, and every other of its kind is refused.
use Prim.Native.Nat.{ℕ, ◌+◌, ◌*◌, ◌/◌, ◌^◌, ◌≤◌, ◌<◌}
use mathlib.Core.Path.{◌≡◌, sym, ◌∙◌}
use mathlib.Core.Bool.{true}
use mathlib.Core.List.Memᴰ
use mathlib.Core.List.{List, [], Memᴰ}
use native.Mathlib.Omega.{arith}
use borrow.Author.Tests.{ltb-true, eqb-true}
use Rattle.view.specs.declared.ProcessId.{ProcessId}
use Rattle.view.specs.Logic.{pick, each_up_to, is_one_of}
use Rattle.view.specs.View.{has, within, everyone}
use Rattle.view.proofs.Laws.{each_keeps, one_of, true_is_not_false}
use Rattle.view.proofs.Sets.{not_empty}
use Rattle.view.proofs.Views.{shifted_out}
use Rattle.system.specs.declared.System.{System}
use Rattle.plan.specs.declared.Action.{Action}
use Rattle.plan.specs.declared.Action.TheVariants.{Report, Receive, Respond, Crash}
use Rattle.plan.specs.Plan.{report_plan}
use Rattle.plan.specs.Scope.{scope_of}
use Rattle.plan.specs.Cut.{whole, cut_by}
use Rattle.step.specs.Step.{plan_of, carried_out, permitted, attempted, stepped}
use Rattle.orders.specs.Orders.{process, with_report, with_link_moves_at, link_moves, with_take, with_takes_at, with_answer, with_answers_at, process_moves}
use Rattle.orders.proofs.Moves.{one_or_two}
use Rattle.exhaustive.specs.Exhaustive.{is_link_move, is_process_move}
use Rattle.exhaustive.proofs.Lists.{each_puts, at_end, all_pass, none_is, told_apart}

-- ---- what is true of a step that is not refused
pub record NotRefused (s : System) (o : Action) : Type 0 where
  pub actor : is_one_of s.n (scope_of o).actor.0 ≡ true
  pub partner : is_one_of s.n (scope_of o).partner.0 ≡ true
  pub planned : (plan_of s o).refusal ≡ 0

pub not_refused : (s : System) (o : Action) → (stepped s (whole o)).refusal ≡ 0 → NotRefused s o
unfolding stepped attempted permitted carried_out cut_by pick
not_refused s o = grind arith

-- an allowed view
pub view_allowed : (s : System) (p : ProcessId) (v : ℕ) → (plan_of s (Report p v)).refusal ≡ 0 → (within s.n v ≡ true) × (has v p.0 ≡ true)
unfolding plan_of scope_of report_plan pick
view_allowed s p v = grind arith

-- ---- every number that names a view of 1 or 2 processes is one of those tried
view_number : (n v p : ℕ) → is_one_of 2 n ≡ true → v < 256 → within n v ≡ true → has v p ≡ true → (1 ≤ v) × (v ≤ everyone n)
unfolding everyone pick
view_number n v p few byte inside own =
    let some = not_empty v p own in
    let none : v / 2 ^ n ≡ 0 = eqb-true (v / 2 ^ n) 0 (shifted_out n v (omega (arith, (one_of 2 n few).1)) byte ∙ inside) in
    one_or_two (λ m. v / 2 ^ m ≡ 0 → (1 ≤ v) × (v ≤ everyone m)) n few
    (λ e. (omega (arith, some), omega (arith, e)))
    (λ e. (omega (arith, some), omega (arith, e)))
    none

-- ---- each of a kind that names processes 1 to n, and such a view, is tried
module _ (n : ℕ) where
  -- a move that is in a list stays there
  more_reports : (o : Action) (p : ℕ) (l : List Action) → Memᴰ o l → Memᴰ o (each_up_to (everyone n) (with_report p) l)
  unfolding with_report
  more_reports o p = each_keeps (Memᴰ o) (everyone n) (with_report p) (λ v low high l m. Memᴰ.append_left _ m)

  more_takes : (o : Action) (p : ℕ) (l : List Action) → Memᴰ o l → Memᴰ o (with_takes_at n p l)
  unfolding with_takes_at with_take
  more_takes o p = each_keeps (Memᴰ o) n (with_take p) (λ q low high l m. Memᴰ.append_left _ m)

  more_answers : (o : Action) (p : ℕ) (l : List Action) → Memᴰ o l → Memᴰ o (with_answers_at n p l)
  unfolding with_answers_at with_answer
  more_answers o p = each_keeps (Memᴰ o) n (with_answer p) (λ q low high l m. Memᴰ.append_left _ m)

  report-tried : (p v : ℕ) → is_one_of n p ≡ true → (1 ≤ v) × (v ≤ everyone n) → Memᴰ (Report (process p) v) (link_moves n)
  unfolding link_moves with_link_moves_at with_report
  report-tried p v one range =
      let o = Report (process p) v in
      each_puts (Memᴰ o) n p (with_link_moves_at n) (one_of n p one).0 (one_of n p one).1
      (λ l.
      Memᴰ.append_left _
      (each_puts (Memᴰ o) (everyone n) v (with_report p) range.0 range.1 (λ m. at_end m _) (λ j m k. Memᴰ.append_left _ k) l))
      (λ q l m. Memᴰ.append_left _ (more_reports o q l m))
      []

  crash_tried : (p : ℕ) → is_one_of n p ≡ true → Memᴰ (Crash (process p)) (link_moves n)
  unfolding link_moves with_link_moves_at
  crash_tried p one =
      each_puts (Memᴰ (Crash (process p))) n p (with_link_moves_at n) (one_of n p one).0 (one_of n p one).1
      (λ l. at_end (each_up_to (everyone n) (with_report p) l) _)
      (λ q l m. Memᴰ.append_left _ (more_reports _ q l m))
      []

  take-tried : (q p : ℕ) → is_one_of n q ≡ true → is_one_of n p ≡ true → Memᴰ (Receive (process q) (process p)) (process_moves n)
  unfolding process_moves with_takes_at with_take
  take-tried q p from to =
      let o = Receive (process q) (process p) in
      each_keeps (Memᴰ o) n (with_answers_at n) (λ k low high l m. more_answers o k l m) _
      (each_puts (Memᴰ o) n p (with_takes_at n) (one_of n p to).0 (one_of n p to).1
      (λ l. each_puts (Memᴰ o) n q (with_take p) (one_of n q from).0 (one_of n q from).1 (λ m. at_end m _) (λ j m k. Memᴰ.append_left _ k) l)
      (λ k l m. more_takes o k l m)
      [])

  answer-tried : (p q : ℕ) → is_one_of n p ≡ true → is_one_of n q ≡ true → Memᴰ (Respond (process p) (process q)) (process_moves n)
  unfolding process_moves with_answers_at with_answer
  answer-tried p q from to =
      let o = Respond (process p) (process q) in
      each_puts (Memᴰ o) n p (with_answers_at n) (one_of n p from).0 (one_of n p from).1
      (λ l. each_puts (Memᴰ o) n q (with_answer p) (one_of n q to).0 (one_of n q to).1 (λ m. at_end m _) (λ j m k. Memᴰ.append_left _ k) l)
      (λ k l m. more_answers o k l m)
      _

-- ---- so, of the kind of a turn, every move that is not refused is tried
pub link_tried : (s : System) → is_one_of 2 s.n ≡ true → (o : Action) → is_link_move o ≡ true → (stepped s (whole o)).refusal ≡ 0 → Memᴰ o (link_moves s.n)
unfolding is_link_move scope_of
link_tried s few (Report p v) kind e =
    let f = not_refused s (Report p v) e in
    let view = view_allowed s p v f.planned in
    report-tried s.n p.0 v f.actor (view_number s.n v p.0 few (ltb-true v 256 kind) view.0 view.1)
link_tried s few (Receive q p) kind e = true_is_not_false (sym kind)
link_tried s few (Respond p q) kind e = true_is_not_false (sym kind)
link_tried s few (Crash p) kind e = crash_tried s.n p.0 (not_refused s (Crash p) e).actor

pub process-tried : (s : System) → (o : Action) → is_process_move o ≡ true → (stepped s (whole o)).refusal ≡ 0 → Memᴰ o (process_moves s.n)
unfolding is_process_move scope_of
process-tried s (Report p v) kind e = true_is_not_false (sym kind)
process-tried s (Receive q p) kind e = let f = not_refused s (Receive q p) e in take-tried s.n q.0 p.0 f.partner f.actor
process-tried s (Respond p q) kind e = let f = not_refused s (Respond p q) e in answer-tried s.n p.0 q.0 f.actor f.partner
process-tried s (Crash p) kind e = true_is_not_false (sym kind)

-- ---- each is of its kind, and no two are alike: computed, for 1 or 2 processes
-- a number for each move that names small numbers
unfoldable pub code_of : Action → ℕ
code_of (Report p v) = 4 * (10 * p.0 + v)
code_of (Receive q p) = 4 * (10 * q.0 + p.0) + 1
code_of (Respond p q) = 4 * (10 * p.0 + q.0) + 2
code_of (Crash p) = 4 * p.0 + 3

pub link_kinds : (n : ℕ) → is_one_of 2 n ≡ true → all_pass is_link_move (link_moves n) ≡ true
unfolding all_pass is_link_move link_moves with_link_moves_at with_report each_up_to everyone pick
link_kinds n few = grind arith

pub process_kinds : (n : ℕ) → is_one_of 2 n ≡ true → all_pass is_process_move (process_moves n) ≡ true
unfolding all_pass is_process_move process_moves with_takes_at with_take with_answers_at with_answer each_up_to
process_kinds n few = grind arith

pub link_apart : (n : ℕ) → is_one_of 2 n ≡ true → told_apart code_of (link_moves n) ≡ true
unfolding told_apart none_is code_of link_moves with_link_moves_at with_report each_up_to everyone pick
link_apart n few = grind arith

pub process-apart : (n : ℕ) → is_one_of 2 n ≡ true → told_apart code_of (process_moves n) ≡ true
unfolding told_apart none_is code_of process_moves with_takes_at with_take with_answers_at with_answer each_up_to
process-apart n few = grind arith
