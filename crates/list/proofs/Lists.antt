-- Laws of a list of steps: what an order says, and one order more.
use Prim.Native.Nat.{ℕ, zero, suc, ◌+◌, ◌-◌, ◌*◌, ◌%◌, ◌<◌, ◌≤◌, min}
use mathlib.Core.Path.{◌≡◌, refl, sym, ◌∙◌, ap}
use mathlib.Core.Bool.{Bool, true, false, ◌&&◌, not}
use mathlib.Core.List.{List, [], ◌∷◌, ◌++◌, append_assoc, append-nil}
use native.Mathlib.Decide.{dec_le}
use native.Mathlib.Nat.{lt_of_not-le, add-zero}
use native.Mathlib.Omega.{arith}
use borrow.Author.Tests.{eq-eqb, eqb-true, eqb-false, lt-ltb, le-ltb}
use lib.Dec.{eqb}
use lib.ListN.{length, take, drop, get_or, set, length-set, take-append-drop, get_or-append}
use lib.Seq.{drop-length}
use Rattle.std.specs.Prelude.{Err}
use Rattle.std.specs.Int.{div_ceil}
use Rattle.std.proofs.lemmas.List.{take_more_set, drop-set-lt, drop_more, drop_at, drop_all, drop-drop, get_or-drop, length-drop}
use Rattle.view.specs.Logic.{pick}
use Rattle.view.proofs.Laws.{by_test, and_left, and_right, and_intro, true_is_not_false}
use Rattle.system.specs.declared.System.{System}
use Rattle.system.specs.declared.refusal.Refusal.TheVariants.{Unsound, BadLine}
use Rattle.system.specs.Outcome.{Outcome, refused}
use Rattle.sound.specs.Sound.{sound_system}
use Rattle.plan.specs.declared.Cut.{Cut}
use Rattle.step.specs.Step.{stepped}
use Rattle.image.specs.Image.{system_in}
use Rattle.alternatives.specs.Gives.{Gives}
use Rattle.alternatives.proofs.Carrying.{refused_gives}
use Rattle.list.specs.List.{cut_of, Order, order_of, order_count, order_at, orders_from, orders_in, obeyed, numbers_of, system_after, all_refused, Performs}

-- ---- an order: kinds 0 to 3 are steps
module _ (kind x y : ℕ) (c : Cut) where
  pub unknown_kind : 3 < kind → order_of kind x y c ≡ Err BadLine
  unfolding order_of pick
  unknown_kind high = rw (off 0 (omega arith), off 1 (omega arith), off 2 (omega arith), off 3 (omega arith))
    where
      off : (n : ℕ) → n < kind → eqb kind n ≡ false
      off n low = by_test (eqb kind n) (λ e. absurd (omega (arith, eqb-true kind n e))) (λ e. e)

  pub unsound_kind : (s : System) → kind ≤ 3 → sound_system s ≡ false → obeyed s (order_of kind x y c) ≡ refused 1 s
  unfolding obeyed order_of stepped pick
  unsound_kind s low off =
      by_test (eqb kind 0) (λ e. rw (e, off)) (λ e.
      by_test (eqb kind 1) (λ f. rw (e, f, off)) (λ f.
      by_test (eqb kind 2) (λ g. rw (e, f, g, off)) (λ g.
      by_test (eqb kind 3) (λ h. rw (e, f, g, h, off)) (λ h.
      absurd (omega (arith, eqb-false kind 0 e, eqb-false kind 1 f, eqb-false kind 2 g, eqb-false kind 3 h))))))

module _ (order : List ℕ) where
  abbrev said : Order
  said = order_of (get_or order 0 0) (get_or order 1 0) (get_or order 2 0) (cut_of (get_or order 3 0))

  pub says : 4 ≤ length order → order_at order 0 ≡ said
  unfolding order_at pick
  says long = rw (lt-ltb 3 (length order - 0) (omega arith))

  module _ (b : List ℕ) where
    -- bytes that break off inside a step are no step
    pub broken_off : length order < 4 → Gives (obeyed (system_in b) (order_at order 0)) b 8 b
    unfolding obeyed order_at pick
    broken_off short = refused_gives b _ BadLine (rw (le-ltb 3 (length order - 0) (omega arith)))

    pub no_kind : 4 ≤ length order → 3 < get_or order 0 0 → Gives (obeyed (system_in b) (order_at order 0)) b 8 b
    unfolding obeyed
    no_kind long high = refused_gives b _ BadLine (rw (says long, unknown_kind _ _ _ _ high))

    pub not_obeyed : 4 ≤ length order → get_or order 0 0 ≤ 3 → sound_system (system_in b) ≡ false → Gives (obeyed (system_in b) (order_at order 0)) b 1 b
    not_obeyed long low off = refused_gives b _ Unsound (rw (says long) (unsound_kind _ _ _ _ (system_in b) low off))

-- ---- how many orders there are
order_left : (list : List ℕ) (i : ℕ) → 0 < length list - 4 * i → i < order_count list
unfolding order_count pick
order_left list i some = by_test (eqb (length list % 4) 0) (λ e. rw e (omega (arith, eqb-true (length list % 4) 0 e))) (λ e. rw e (omega arith))

pub none_left : (list : List ℕ) (i : ℕ) → length (drop (4 * i) list) ≡ 0 → order_count list ≤ i
unfolding order_count pick
none_left list i none =
    let over : length list ≤ 4 * i = omega (arith, length-drop (4 * i) list) in
    by_test (eqb (length list % 4) 0) (λ e. rw e (omega arith)) (λ e. rw e (omega (arith, eqb-false (length list % 4) 0 e)))

counted : (list : List ℕ) → div_ceil (length list) 4 ≡ order_count list
unfolding order_count pick
counted list = by_test (eqb (length list % 4) 0) (λ e. rw e (omega (arith, eqb-true (length list % 4) 0 e))) (λ e. rw e (omega (arith, eqb-false (length list % 4) 0 e)))

-- ---- the next piece of a list that is cut into fours
module _ (list here chunk rest : List ℕ) (i : ℕ) (left : here ≡ drop (4 * i) list) (cut : here ≡ chunk ++ rest) (size : length chunk ≡ min 4 (length here)) where
  pub next_piece : rest ≡ drop (4 * (i + 1)) list
  next_piece =
      elim (dec_le 4 (length here)) [
        | yes p ↦
            let four : length chunk ≡ 4 = omega arith in
            let place : 4 * i + 4 ≡ 4 * (i + 1) = omega arith in
            sym (drop_at chunk rest 4 four) ∙ ap (drop 4) (sym cut ∙ left) ∙ drop-drop 4 (4 * i) list ∙ ap (λ n. drop n list) place
        | no n ↦
            let all : length chunk ≡ length here = omega (arith, lt_of_not-le n) in
            let past : length list ≤ 4 * (i + 1) = omega (arith, lt_of_not-le n, ap length left, length-drop (4 * i) list) in
            let gone : rest ≡ [] = sym (drop_at chunk rest (length here) all) ∙ ap (drop (length here)) (sym cut) ∙ drop-length here in
            gone ∙ sym (drop_all (4 * (i + 1)) list past)
      ]

  byte_at : (j : ℕ) → j < length chunk → get_or chunk j 0 ≡ get_or list (4 * i + j) 0
  byte_at j h = sym (get_or-append chunk rest 0 j h) ∙ rw (← cut, left) (get_or-drop (4 * i) list j 0)

  -- it begins with the order that stands there
  pub same_order : order_at chunk 0 ≡ order_at list (4 * i)
  unfolding order_at pick
  same_order =
      elim (dec_le 4 (length chunk)) [
        | yes p ↦
            let first : get_or chunk 0 0 ≡ get_or list (4 * i) 0 = byte_at 0 (omega arith) ∙ rw add-zero in
            let second = byte_at 1 (omega arith) in
            let third = byte_at 2 (omega arith) in
            let last = byte_at 3 (omega arith) in
            says chunk p ∙ rw (lt-ltb 3 (length list - 4 * i) (omega (arith, ap length left, length-drop (4 * i) list)), first, second, third, last)
        | no n ↦
            rw (
              le-ltb 3 (length chunk - 0) (omega (arith, lt_of_not-le n)),
              le-ltb 3 (length list - 4 * i) (omega (arith, lt_of_not-le n, ap length left, length-drop (4 * i) list)),
            )
      ]

  pub one_left : 0 < length here → i < order_count list
  one_left some = order_left list i (omega (arith, ap length left, length-drop (4 * i) list))

-- ---- after k of all orders: the numbers so far are the first of the slice m, and the rest of m is as it was; s is the system then
pub record SoFar (list : List ℕ) (first : System) (m₀ : List ℕ) (all k : ℕ) (s : System) (m : List ℕ) : Type 0 where
  pub within : k ≤ all
  pub long : length m ≡ length m₀
  pub numbers : numbers_of first (orders_from all list 0) ≡ take k m ++ numbers_of s (orders_from (all - k) list k)
  pub system : system_after first (orders_from all list 0) ≡ system_after s (orders_from (all - k) list k)
  pub rest : drop k m ≡ drop k m₀

module _ (list : List ℕ) (first : System) (m₀ : List ℕ) (all : ℕ) where
  pub none_yet : SoFar list first m₀ all 0 first m₀
  none_yet =
      let e : all - 0 ≡ all = omega arith in
      record { within = omega arith; long = refl; numbers = rw e; system = rw e; rest = refl }

  next_order : (k : ℕ) → k < all → orders_from (all - k) list k ≡ order_at list (4 * k) ∷ orders_from (all - (k + 1)) list (k + 1)
  unfolding orders_from
  next_order k h = let e : all - k ≡ suc (all - (k + 1)) = omega arith in rw e

  pub one_further : (k : ℕ) (s t : System) (m : List ℕ) (r : ℕ) (o : Order) → k < all → k < length m → o ≡ order_at list (4 * k)
      → record { refusal = r; system = t } ≡ obeyed s o
      → SoFar list first m₀ all k s m
      → SoFar list first m₀ all (k + 1) t (set m k r)
  unfolding numbers_of system_after
  one_further k s t m r o h room order obeys so_far =
      let number : (obeyed s (order_at list (4 * k))).refusal ≡ r = sym (ap (λ (a : Outcome). a.refusal) (obeys ∙ ap (obeyed s) order)) in
      let after : (obeyed s (order_at list (4 * k))).system ≡ t = sym (ap (λ (a : Outcome). a.system) (obeys ∙ ap (obeyed s) order)) in
      let more = rw (next_order k h) at so_far.numbers in
      let old = drop_more m k 0 room in
      let new = drop_more m₀ k 0 (rw so_far.long at room) in
      let same : drop (k + 1) m ≡ drop (k + 1) m₀ = cc (old, new, so_far.rest) in
      record {
        within = omega arith;
        long = length-set m k r ∙ so_far.long;
        numbers = (rw (number, after) at more) ∙ sym (rw (take_more_set m k r room, append_assoc));
        system = so_far.system ∙ ap (system_after s) (next_order k h) ∙ ap (λ (u : System). system_after u (orders_from (all - (k + 1)) list (k + 1))) after;
        rest = drop-set-lt (k + 1) m k r (omega arith) ∙ same;
      }

  -- the numbers of all orders are the first of the slice
  pub all_told : (s : System) (m : List ℕ) (k : ℕ) → k ≡ all → SoFar list first m₀ all k s m → numbers_of first (orders_from all list 0) ≡ take k m
  unfolding orders_from numbers_of
  all_told s m k end so_far = let e : all - k ≡ 0 = omega arith in (rw e at so_far.numbers) ∙ append-nil (take k m)

  -- all orders are obeyed
  pub all_obeyed : (s : System) (m : List ℕ) (k : ℕ) → k ≡ all → SoFar list first m₀ all k s m
      → (s ≡ system_after first (orders_from all list 0)) × (m ≡ numbers_of first (orders_from all list 0) ++ drop k m₀)
  unfolding orders_from numbers_of system_after
  all_obeyed s m k end so_far =
      let e : all - k ≡ 0 = omega arith in (
        sym (rw e at so_far.system),
        sym (ap (λ (l : List ℕ). l ++ drop k m₀) (all_told s m k end so_far) ∙ ap (λ (l : List ℕ). take k m ++ l) (sym so_far.rest) ∙ take-append-drop k m),
      )

pub orders_long : (k : ℕ) (list : List ℕ) (i : ℕ) → length (orders_from k list i) ≡ k
unfolding orders_from
orders_long zero list i = refl
orders_long (suc k) list i = ap suc (orders_long k list (i + 1))

-- ---- where every one is refused, the bytes stay
refused-append : (ks : List ℕ) (r : ℕ) → all_refused (ks ++ (r ∷ [])) ≡ true → (all_refused ks ≡ true) × (r ≡ 0 → ⊥)
unfolding all_refused
refused-append [] r e = (refl, λ z. true_is_not_false (sym e ∙ ap (λ (b : Bool). not b && true) (eq-eqb r 0 z)))
refused-append (k ∷ ks) r e =
    let rest = refused-append ks r (and_right (not (eqb k 0)) (all_refused (ks ++ (r ∷ []))) e) in
    (and_intro (and_left (not (eqb k 0)) (all_refused (ks ++ (r ∷ []))) e) rest.0, rest.1)

-- bytes b became c by the orders so far, and c became d by one more, whose number is r
pub still_kept : (b c d m : List ℕ) (k r : ℕ) → k < length m → (all_refused (take k m) ≡ true → c ≡ b) → ((r ≡ 0 → ⊥) → d ≡ c)
    → all_refused (take (k + 1) (set m k r)) ≡ true
    → d ≡ b
still_kept b c d m k r room before now e =
    let parts = refused-append (take k m) r (rw (take_more_set m k r room) at e) in now parts.1 ∙ before parts.0

-- ---- all of them
pub performed : (list b m : List ℕ) (i r : ℕ) (c k : List ℕ) → r ≡ min (length m) (div_ceil (length list) 4) → i ≡ min (length m) (order_count list)
    → SoFar list (system_in b) m (min (length m) (order_count list)) i (system_in c) k
    → (all_refused (take i k) ≡ true → c ≡ b)
    → Performs list b m r c k
unfolding orders_in
performed list b m i r c k count end so_far kept =
    let done : r ≡ i = count ∙ ap (min (length m)) (counted list) ∙ sym end in
    let all = all_obeyed list (system_in b) m _ (system_in c) k i end so_far in
    record {
      count = done ∙ end ∙ sym (orders_long _ list 0);
      system = all.0;
      numbers = rw done all.1;
      kept = λ no. kept (rw (all_told list (system_in b) m _ (system_in c) k i end so_far) at no);
    }
