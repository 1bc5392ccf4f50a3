-- Chains of iterators over the numbers 1 to n, as `(1..=n).all(|k| ..)`.
use Prim.Native.Nat.{ℕ, zero, suc, ◌+◌, ◌-◌, ◌<◌}
use mathlib.Core.Path.{◌≡◌, refl, sym, ap, ◌∙◌, subst}
use mathlib.Core.Bool.{Bool, true, false}
use mathlib.Core.List.{List, [], ◌∷◌, map}
use native.Mathlib.Omega.{arith}
use native.Mathlib.Numerals.{add-one}
use lib.ListN.{length}
use denote.Param.Members.{Mut}
use Rattle.std.specs.Prelude.{Option, Some, None}
use Rattle.std.specs.Bool.{⊤, MatchBool}
use Rattle.std.specs.Option.{MatchOption}
use Rattle.std.specs.Fn.{Called}
use Rattle.std.specs.List.{range_with_len, sum, fold, AllWithin, HoldsAt, FoldsTo}
use Rattle.std.specs.Iterator.{YieldsThen, AlwaysYields, Drains}
use Rattle.std.specs.Iterator.Adapters.{map_source, map_callee, map_steps}
use Rattle.std.specs.Iterator.Runs.{EachRunFrom}
use Rattle.std.specs.Range.{range_inclusive_start, range_inclusive_end, range_inclusive_exhausted, range_inclusive_left, range_inclusive_len, range_inclusive_steps}
use Rattle.std.specs.declared.ops.RangeInclusive.{RangeInclusive}
use Rattle.std.specs.declared.iter.Map.{Map}
use Rattle.std.proofs.lemmas.Iterator.{YieldsList, YieldsList-from_map, cases_from_all}
use Rattle.std.proofs.lemmas.Iterator.Consumers.{YieldsList-at, sum_from_yields_List, fits_from_yields_list}
use Rattle.std.proofs.lemmas.List.FromFn.{length-range_with_len, get_or-range_with_len, map-range_with_len_more}
use Rattle.std.proofs.lemmas.List.Sums.{fold-append}
use Rattle.view.specs.Logic.{all_up_to, sum_up_to}
use Rattle.view.proofs.Laws.{all_intro, all_elim, by_test, true_is_not_false}

-- ---- what `1..=n` yields
abbrev gap : ℕ → ℕ → ℕ
gap a b = b - a

abbrev pub counts_up : RangeInclusive ℕ → Option ℕ → RangeInclusive ℕ → Type 0
counts_up = range_inclusive_steps gap (λ a b. b ≡ a + 1)

abbrev shown : RangeInclusive ℕ → List ℕ
shown s = range_with_len (range_inclusive_start s) (range_inclusive_left gap s)

one_more : (a n b m x : ℕ) (over : Bool) → range_inclusive_len gap b m over + 1 ≡ n → x ≡ a → (over ≡ false → b ≡ a + 1)
    → range_with_len a n ≡ x ∷ range_with_len b (range_inclusive_len gap b m over)
one_more a n b m x true left is next = let e : n ≡ 1 = omega (arith, left) in rw (e, is)
one_more a n b m x false left is next =
    let e : n ≡ suc (gap b m + 1 - gap m b) = omega (arith, left) in
    rw (e, is, next refl)

nothing_left : (s t : RangeInclusive ℕ) → counts_up s None t → length (shown s) ≡ 0
nothing_left s t p = length-range_with_len (range_inclusive_start s) (range_inclusive_left gap s) ∙ p.1.0

one_left : (s : RangeInclusive ℕ) (x : ℕ) (t : RangeInclusive ℕ) → counts_up s (Some x) t → shown s ≡ x ∷ shown t
one_left s x t p =
    one_more (range_inclusive_start s) (range_inclusive_left gap s) (range_inclusive_start t) (range_inclusive_end t) x (range_inclusive_exhausted t) p.1.1 p.1.0 p.1.2

yields_at : (ys : List ℕ) (s : RangeInclusive ℕ) → ys ≡ shown s → AlwaysYields counts_up (λ x. x) s ys
yields_at [] s e = λ x j p. let f = one_left s x j p in cc
yields_at (y ∷ ys) s e = (
  (λ j p. absurd (omega (arith, ap length e, nothing_left s j p))),
  λ x j p. let f = one_left s x j p in (cc, yields_at ys j (cc)),
)

pub yields_up : {s : RangeInclusive ℕ} (n : ℕ) → range_inclusive_start s ≡ 1 → range_inclusive_end s ≡ n → range_inclusive_exhausted s ≡ false
    → YieldsList counts_up (λ x. x) s (range_with_len 1 n)
yields_up {s} n start end fresh =
    let left : range_inclusive_left gap s ≡ n = rw (start, end, fresh) (omega arith) in
    record { runs = yields_at (range_with_len 1 n) s (rw (left, start)) }

-- ---- `all`
told : (n : ℕ) (f : ℕ → Bool) (r : Bool)
    → MatchBool r (AllWithin (λ k. f k ≡ true) (range_with_len 1 n) 0 (length (range_with_len 1 n))) ((k : ℕ) × (k < length (range_with_len 1 n)) × HoldsAt (λ k. f k ≡ false) (range_with_len 1 n) k)
    → r ≡ all_up_to n f
told n f true all =
    sym (all_intro n f (λ k l u.
    let back : 1 + (k - 1) ≡ k = omega arith in
    subst (λ (j : ℕ). f j ≡ true) (get_or-range_with_len 1 n (k - 1) 0 (omega arith) ∙ back) (all (k - 1) 0 (omega arith) (omega (arith, length-range_with_len 1 n)))))
told n f false (k, below, off) =
    by_test (all_up_to n f)
    (λ on.
    let under : k < n = omega (arith, below, length-range_with_len 1 n) in
    true_is_not_false (sym (all_elim n f on (1 + k) (omega arith) (omega arith)) ∙ ap f (sym (get_or-range_with_len 1 n k 0 under)) ∙ off 0))
    (λ off. sym off)

-- from what the call and the closure ensure
pub all_tested : {F : Type 0} {g : Mut F (ℕ × Unit {0}) Bool} {s : RangeInclusive ℕ} (u : RangeInclusive ℕ) (f : F) (r : Bool) (n : ℕ) (t : ℕ → Bool)
    → range_inclusive_start s ≡ 1 → range_inclusive_end s ≡ n → range_inclusive_exhausted s ≡ false
    → (xs : List ℕ) × (o : Option ℕ) × (j : F) × YieldsThen counts_up s xs o u × FoldsTo (λ p x q. Called g p (x, tt) true q) f xs j × MatchOption o (r ≡ true) (λ x. (r ≡ false) × ((h : F) × Called g j (x, tt) false h))
    → ((b : Bool) (x : ℕ) (q : F) → Called g f (x, tt) b q → (q ≡ f) × (b ≡ t x))
    → r ≡ all_up_to n t
all_tested u f r n t start end fresh ran told_by =
    told n t r (cases_from_all u f r (λ k. t k ≡ true) (λ k. t k ≡ false) ran (yields_up n start end fresh) (λ x q k. ((told_by true x q k).0, sym (told_by true x q k).1)) (λ x q k. sym (told_by false x q k).1))

-- ---- `sum` after `map`
counted : (f : ℕ → ℕ) (n : ℕ) → sum (map f (range_with_len 1 n)) ≡ sum_up_to n f
unfolding sum_up_to
counted f zero = refl
counted f (suc n) =
    ap sum (rw add-one at (map-range_with_len_more f 1 n (suc n) (omega arith)))
    ∙ fold-append ◌+◌ 0 (map f (range_with_len 1 n)) (f (suc n) ∷ [])
    ∙ ap (λ k. k + f (suc n)) (counted f n)

-- where the closure gives h of each number
module _ {F : Type 0} {g : Mut F (ℕ × Unit {0}) ℕ} {r : RangeInclusive ℕ} {s : Map (RangeInclusive ℕ) F} {f : F} (n : ℕ) (h : ℕ → ℕ)
    (start : range_inclusive_start r ≡ 1) (end : range_inclusive_end r ≡ n) (fresh : range_inclusive_exhausted r ≡ false)
    (source : map_source s ≡ r) (callee : map_callee s ≡ f) (told : (x a : ℕ) (q : F) → Called g f (x, tt) a q → (q ≡ f) × (a ≡ h x)) where
  road : YieldsList (map_steps counts_up g) (λ x. x) s (map h (range_with_len 1 n))
  road = YieldsList-from_map g h (YieldsList-at source (yields_up n start end fresh)) callee told

  pub sum_told : (a : ℕ) → (xs : List ℕ) × (⊤ → Drains (map_steps counts_up g) s xs) × (a ≡ fold (λ b x. b + x) 0 xs) → a ≡ sum_up_to n h
  sum_told a ran = sum_from_yields_List s a ran road ∙ counted h n

  pub sum_fits : (top : ℕ) → sum_up_to n h < top → EachRunFrom (map_steps counts_up g) s (λ p. fold (λ a x. a + x) 0 p.items < top)
  sum_fits top below = fits_from_yields_list s top road (omega (arith, counted h n))
