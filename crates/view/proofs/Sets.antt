-- Laws of views as sets of processes.
use Prim.Native.Nat.{ℕ, zero, suc, ◌≤◌, ◌<◌, ◌-◌, ◌/◌, ◌%◌, ◌^◌}
use mathlib.Core.Path.{◌≡◌, refl, sym, ◌∙◌, ap, subst}
use mathlib.Core.Bool.{Bool, true, false, ◌&&◌, ◌||◌, not, and-true, and-false}
use mathlib.Core.Logic.{◌⊎◌, inl, inr, ⊎_elim}
use native.Mathlib.Omega.{arith}
use native.Mathlib.Decide.{dec_le}
use native.Mathlib.Nat.{zero-div, zero-mod, mod-lt}
use borrow.Author.Tests.{eqb-true, leb-true, le-leb}
use lib.Dec.{eqb, leb, ltb}
use lib.Count.{ones, ones_in}
use lib.Bits.{bit_and, bit_or, bit_xor, and_shr, or_shr, xor_shr, and_mod, or_mod, xor_mod}
use Rattle.std.proofs.lemmas.Bool.{agree_below, agree_below_at}
use Rattle.view.specs.Logic.{pick, each_up_to, is_one_of}
use Rattle.view.specs.View.{has, within, subset, with, minus, switched, everyone, counted_at, count_of, joined, first_members}
use Rattle.view.proofs.Laws.{and_left, and_right, and_intro, one_of, all_elim, all_intro, or_cases, or_left, or_right, true_is_not_false, by_pick, by_test, each_keeps}
use Rattle.view.proofs.Table.{every_below, below}

-- a process that a view names has a number from 1 to 8
pub has_number : (v u : ℕ) → has v u ≡ true → (1 ≤ u) × (u ≤ 8)
unfolding has
has_number v u e = one_of 8 u (and_left (is_one_of 8 u) (eqb (v / 2 ^ (u - 1) % 2) 1) e)

pub has_none : (u : ℕ) → has 0 u ≡ true → ⊥
unfolding has
has_none u e =
    let b : 0 / 2 ^ (u - 1) % 2 ≡ 1 = eqb-true _ _ (and_right (is_one_of 8 u) (eqb (0 / 2 ^ (u - 1) % 2) 1) e) in
    omega (arith, simp (zero-div, zero-mod) at b)

pub not_empty : (v u : ℕ) → has v u ≡ true → v ≡ 0 → ⊥
not_empty v u e z = has_none u (subst (λ (w : ℕ). has w u ≡ true) z e)

pub has_inside : (n v u : ℕ) → within n v ≡ true → has v u ≡ true → u ≤ n
unfolding within
has_inside n v u w e =
    let b = has_number v u e in
    leb-true u n (rw e at (all_elim 8 (λ k. not (has v k) || leb k n) w u b.0 b.1))

-- ---- bit by bit
abbrev bit : ℕ → ℕ → ℕ
bit v k = v / 2 ^ k % 2

two : (P : ℕ → Type 0) → P 0 → P 1 → (x : ℕ) → x < 2 → P x
two P a b zero h = a
two P a b (suc zero) h = b
two P a b (suc (suc x)) h = absurd (omega arith)

bit_or_lem : (a b k : ℕ) → bit (bit_or a b) k ≡ bit_or (bit a k) (bit b k)
bit_or_lem a b k = rw (or_shr a b k) (or_mod (a / 2 ^ k) (b / 2 ^ k) 1)

bit_and_lem : (a b k : ℕ) → bit (bit_and a b) k ≡ bit_and (bit a k) (bit b k)
bit_and_lem a b k = rw (and_shr a b k) (and_mod (a / 2 ^ k) (b / 2 ^ k) 1)

or_test : (x y : ℕ) → x < 2 → y < 2 → eqb (bit_or x y) 1 ≡ (eqb x 1 || eqb y 1)
or_test x y h k = two (λ z. eqb (bit_or z y) 1 ≡ (eqb z 1 || eqb y 1)) (two (λ w. eqb (bit_or 0 w) 1 ≡ (eqb 0 1 || eqb w 1)) refl refl y k) (two (λ w. eqb (bit_or 1 w) 1 ≡ (eqb 1 1 || eqb w 1)) refl refl y k) x h

and_test : (x y : ℕ) → x < 2 → y < 2 → eqb (bit_and x y) 1 ≡ (eqb x 1 && eqb y 1)
and_test x y h k = two (λ z. eqb (bit_and z y) 1 ≡ (eqb z 1 && eqb y 1)) (two (λ w. eqb (bit_and 0 w) 1 ≡ (eqb 0 1 && eqb w 1)) refl refl y k) (two (λ w. eqb (bit_and 1 w) 1 ≡ (eqb 1 1 && eqb w 1)) refl refl y k) x h

bit_small : (v k : ℕ) → bit v k < 2
bit_small v k = mod-lt (v / 2 ^ k) (omega arith)

pub has_or : (a b u : ℕ) → has (bit_or a b) u ≡ true → (has a u ≡ true) ⊎ (has b u ≡ true)
unfolding has
has_or a b u e =
    let k = u - 1 in
    let one = and_left (is_one_of 8 u) (eqb (bit (bit_or a b) k) 1) e in
    let set = and_right (is_one_of 8 u) (eqb (bit (bit_or a b) k) 1) e in
    let either : (eqb (bit a k) 1 || eqb (bit b k) 1) ≡ true = sym (ap (λ (x : ℕ). eqb x 1) (bit_or_lem a b k) ∙ or_test (bit a k) (bit b k) (bit_small a k) (bit_small b k)) ∙ set in
    ⊎_elim (λ h. inl (and_intro one h)) (λ h. inr (and_intro one h)) (or_cases (eqb (bit a k) 1) (eqb (bit b k) 1) either)

pub has_and : (a b u : ℕ) → has (bit_and a b) u ≡ true → has b u ≡ true
unfolding has
has_and a b u e =
    let k = u - 1 in
    let one = and_left (is_one_of 8 u) (eqb (bit (bit_and a b) k) 1) e in
    let set = and_right (is_one_of 8 u) (eqb (bit (bit_and a b) k) 1) e in
    let both : (eqb (bit a k) 1 && eqb (bit b k) 1) ≡ true = sym (ap (λ (x : ℕ). eqb x 1) (bit_and_lem a b k) ∙ and_test (bit a k) (bit b k) (bit_small a k) (bit_small b k)) ∙ set in
    and_intro one (and_right (eqb (bit a k) 1) (eqb (bit b k) 1) both)

-- a part of a view names only what the view names
pub subset-has : (a b u : ℕ) → subset a b ≡ true → has a u ≡ true → has b u ≡ true
subset-has a b u s e = has_and a b u (subst (λ (v : ℕ). has v u ≡ true) (sym (eqb-true (bit_and a b) a s)) e)

-- ---- one process added
alone : (q u : ℕ) → 1 ≤ q → q ≤ 8 → has (2 ^ (q - 1)) u ≡ true → u ≡ q
unfolding has
alone q u l h e =
    let b = has_number (2 ^ (q - 1)) u e in
    let t = below 8 (λ j. every_below 8 (λ k. not (has (2 ^ j) (suc k)) || eqb k j)) refl (q - 1) (omega arith) in
    let f = below 8 (λ k. not (has (2 ^ (q - 1)) (suc k)) || eqb k (q - 1)) t (u - 1) (omega arith) in
    let back : suc (u - 1) ≡ u = omega arith in
    let g = subst (λ (w : ℕ). (not (has (2 ^ (q - 1)) w) || eqb (u - 1) (q - 1)) ≡ true) back f in
    omega (arith, eqb-true (u - 1) (q - 1) (rw e at g))

pub has-with : (v q u : ℕ) → 1 ≤ q → q ≤ 8 → has (with v q) u ≡ true → (has v u ≡ true) ⊎ (u ≡ q)
unfolding with pick
has-with v q u l h e =
    ⊎_elim inl (λ k. inr (alone q u l h k))
    (has_or v (2 ^ (q - 1)) u (subst (λ (t : Bool). has (pick t (bit_or v (2 ^ (q - 1))) v) u ≡ true) (and_intro (le-leb 1 q l) (le-leb q 8 h)) e))

pub has_only : (q u : ℕ) → 1 ≤ q → q ≤ 8 → has (with 0 q) u ≡ true → u ≡ q
has_only q u l h e = ⊎_elim (λ n. absurd (has_none u n)) (λ k. k) (has-with 0 q u l h e)

-- ---- and back: what is added is named, and what was named stays
or_both : (a b : Bool) → (a ≡ true) ⊎ (b ≡ true) → (a || b) ≡ true
or_both a b h = ⊎_elim (or_left a b) (or_right a b) h

or_has : (a b u : ℕ) → (has a u ≡ true) ⊎ (has b u ≡ true) → has (bit_or a b) u ≡ true
unfolding has
or_has a b u h =
    let k = u - 1 in
    let one = ⊎_elim (λ e. and_left (is_one_of 8 u) (eqb (bit a k) 1) e) (λ e. and_left (is_one_of 8 u) (eqb (bit b k) 1) e) h in
    let set = or_both (eqb (bit a k) 1) (eqb (bit b k) 1)
    (⊎_elim (λ e. inl (and_right (is_one_of 8 u) (eqb (bit a k) 1) e)) (λ e. inr (and_right (is_one_of 8 u) (eqb (bit b k) 1) e)) h) in
    and_intro one (ap (λ (x : ℕ). eqb x 1) (bit_or_lem a b k) ∙ or_test (bit a k) (bit b k) (bit_small a k) (bit_small b k) ∙ set)

itself : (q : ℕ) → 1 ≤ q → q ≤ 8 → has (2 ^ (q - 1)) q ≡ true
unfolding has
itself q l h =
    let back : suc (q - 1) ≡ q = omega arith in
    subst (λ (k : ℕ). has (2 ^ (q - 1)) k ≡ true) back (below 8 (λ j. has (2 ^ j) (suc j)) refl (q - 1) (omega arith))

with_is : (v q : ℕ) → 1 ≤ q → q ≤ 8 → with v q ≡ bit_or v (2 ^ (q - 1))
unfolding with pick
with_is v q l h = rw (and_intro (le-leb 1 q l) (le-leb q 8 h))

pub with_new : (v q : ℕ) → 1 ≤ q → q ≤ 8 → has (with v q) q ≡ true
with_new v q l h = rw (with_is v q l h) (or_has v (2 ^ (q - 1)) q (inr (itself q l h)))

pub with_old : (v q u : ℕ) → 1 ≤ q → q ≤ 8 → has v u ≡ true → has (with v q) u ≡ true
with_old v q u l h e = rw (with_is v q l h) (or_has v (2 ^ (q - 1)) u (inl e))

-- ---- views within 1 to n
pub within_if : (n v : ℕ) → ((k : ℕ) → has v k ≡ true → k ≤ n) → within n v ≡ true
unfolding within
within_if n v h = all_intro 8 _ (λ k l u. go k (has v k) refl)
  where
    go : (k : ℕ) (t : Bool) → has v k ≡ t → (not t || leb k n) ≡ true
    go k true e = le-leb k n (h k e)
    go k false e = refl

pub within_none : (n : ℕ) → within n 0 ≡ true
within_none n = within_if n 0 (λ k e. absurd (has_none k e))

pub within-with : (n v q : ℕ) → within n v ≡ true → 1 ≤ q → q ≤ n → q ≤ 8 → within n (with v q) ≡ true
within-with n v q inside l h b = within_if n (with v q) (λ k e. ⊎_elim (has_inside n v k inside) (λ same. omega arith) (has-with v q k l b e))

-- ---- how many, and the first of them
-- the machine's count of a byte's bits
pub count_ones : (v : ℕ) → v < 256 → ones v ≡ count_of v
unfolding ones ones_in count_of counted_at each_up_to has pick
count_ones v h = eqb-true _ _ (below 256 (λ w. eqb (ones w) (count_of w)) refl v h)

pub few_ones : (v : ℕ) → v < 256 → ones v ≤ 8
unfolding ones ones_in
few_ones v h = leb-true _ _ (below 256 (λ w. leb (ones w) 8) refl v h)

pub count_none : count_of 0 ≡ 0
unfolding count_of counted_at each_up_to has pick
count_none = refl

-- the first of a view are of the view
pub first_has : (m v u : ℕ) → has (first_members m v) u ≡ true → has v u ≡ true
unfolding first_members joined
first_has m v u =
    each_keeps Inside 8 (joined m v)
    (λ k l h w inside.
    by_pick Inside (has v k && ltb (count_of w) m) _ _
    (λ e named. ⊎_elim inside (λ (same : u ≡ k). subst (λ (j : ℕ). has v j ≡ true) (sym same) (and_left (has v k) (ltb (count_of w) m) e)) (has-with w k u l h named))
    (λ e. inside))
    0
    (λ named. absurd (has_none u named))
  where
    Inside : ℕ → Type 0
    Inside w = has w u ≡ true → has v u ≡ true

-- ---- the processes of one view that another lacks
bit_minus : (a b k : ℕ) → bit (minus a b) k ≡ minus (bit a k) (bit b k)
unfolding minus
bit_minus a b k = rw (xor_shr a (bit_and a b) k) (xor_mod (a / 2 ^ k) (bit_and a b / 2 ^ k) 1 ∙ ap (bit_xor (bit a k)) (bit_and_lem a b k))

minus_test : (x y : ℕ) → x < 2 → y < 2 → eqb (minus x y) 1 ≡ (eqb x 1 && not (eqb y 1))
unfolding minus
minus_test x y h k =
    two (λ z. eqb (minus z y) 1 ≡ (eqb z 1 && not (eqb y 1)))
    (two (λ w. eqb (minus 0 w) 1 ≡ (eqb 0 1 && not (eqb w 1))) refl refl y k)
    (two (λ w. eqb (minus 1 w) 1 ≡ (eqb 1 1 && not (eqb w 1))) refl refl y k)
    x
    h

pub has-minus : (a b u : ℕ) → has (minus a b) u ≡ (has a u && not (has b u))
unfolding has
has-minus a b u =
    let k = u - 1 in
    ap (λ (x : Bool). is_one_of 8 u && x) (ap (λ (x : ℕ). eqb x 1) (bit_minus a b k) ∙ minus_test (bit a k) (bit b k) (bit_small a k) (bit_small b k))
    ∙ apart (is_one_of 8 u) (eqb (bit a k) 1) (eqb (bit b k) 1)
  where
    apart : (n x y : Bool) → (n && (x && not y)) ≡ ((n && x) && not (n && y))
    apart true x y = refl
    apart false x y = refl

-- ---- one process in or out, and the others as they were
pub with_other : (v q u : ℕ) → 1 ≤ q → q ≤ 8 → (u ≡ q → ⊥) → has (with v q) u ≡ has v u
with_other v q u l h n =
    by_test (has v u)
    (λ e. with_old v q u l h e ∙ sym e)
    (λ e.
    by_test (has (with v q) u)
    (λ f. ⊎_elim (λ g. true_is_not_false (sym g ∙ e)) (λ same. absurd (n same)) (has-with v q u l h f))
    (λ f. f ∙ sym e))

pub not_named : (u : ℕ) → has 0 u ≡ false
not_named u = by_test (has 0 u) (λ e. absurd (has_none u e)) (λ e. e)

module _ (v q : ℕ) (l : 1 ≤ q) (h : q ≤ 8) (on : Bool) where
  pub switched_same : has (switched v q on) q ≡ on
  unfolding switched
  switched_same =
      by_pick (λ (w : ℕ). has w q ≡ on) on _ _
      (λ e. with_new v q l h ∙ sym e)
      (λ e. has-minus v (with 0 q) q ∙ ap (λ (x : Bool). has v q && not x) (with_new 0 q l h) ∙ and-false (has v q) ∙ sym e)

  pub switched_other : (u : ℕ) → (u ≡ q → ⊥) → has (switched v q on) u ≡ has v u
  unfolding switched
  switched_other u n =
      by_pick (λ (w : ℕ). has w u ≡ has v u) on _ _
      (λ e. with_other v q u l h n)
      (λ e. has-minus v (with 0 q) u ∙ ap (λ (x : Bool). has v u && not x) (with_other 0 q u l h n ∙ not_named u) ∙ and-true (has v u))

-- ---- all of n processes
pub everyone-has : (n u : ℕ) → n ≤ 8 → has (everyone n) u ≡ is_one_of n u
unfolding has everyone pick
everyone-has n u h =
    elim (dec_le u 8) [
      | yes low ↦ agree_below_at (has (everyone n)) (is_one_of n) 9 u (below 9 (λ m. agree_below (has (everyone m)) (is_one_of m) 9) refl n (omega arith)) (omega arith)
      | no high ↦ by_test (has (everyone n) u)
          (λ e. absurd (high (has_number (everyone n) u e).1))
          (λ e. e ∙ sym (beyond (is_one_of n u) refl high))
    ]
  where
    beyond : (b : Bool) → is_one_of n u ≡ b → (u ≤ 8 → ⊥) → b ≡ false
    beyond true e past = absurd (past (omega (arith, one_of n u e)))
    beyond false e past = refl
