-- What it means that a run ends with an entry beyond index 1.
use Prim.Native.Nat.{ℕ, zero, suc, ◌≤◌}
use mathlib.Core.Path.{◌≡◌, refl, sym, ◌∙◌, ap}
use mathlib.Core.Bool.{Bool, true, false, ◌&&◌, ◌||◌, not}
use native.Mathlib.Omega.{arith}
use borrow.Author.Tests.{leb-false, lt-leb, not-true}
use lib.Dec.{leb}
use Rattle.view.specs.Logic.{all_up_to}
use Rattle.view.proofs.Laws.{by_test, all_elim, true_is_not_false}
use Rattle.system.specs.declared.System.{System}
use Rattle.system.specs.Process.{is_written}
use Rattle.system.specs.System.{entry_in}
use Rattle.orders.specs.Orders.{old_at, all_old_at, goes_beyond}
use Rattle.exhaustive.specs.Exhaustive.{EntryBeyond}

-- one of the numbers at which a test fails
record FailsAt (n : ℕ) (f : ℕ → Bool) : Type 0 where
  at : ℕ
  low : 1 ≤ at
  high : at ≤ n
  fails : f at ≡ false

some_fails : (n : ℕ) (f : ℕ → Bool) → all_up_to n f ≡ false → FailsAt n f
unfolding all_up_to
some_fails zero f e = true_is_not_false e
some_fails (suc k) f e =
    by_test (all_up_to k f)
    (λ all. record { at = suc k; low = omega arith; high = omega arith; fails = sym (ap (λ t. t && f (suc k)) all) ∙ e })
    (λ one. let w = some_fails k f one in record { at = w.at; low = w.low; high = omega (arith, w.high); fails = w.fails })

not_old : (a b : Bool) → (a || not b) ≡ false → (a ≡ false) × (b ≡ true)
not_old true b e = true_is_not_false e
not_old false true e = (refl, refl)
not_old false false e = true_is_not_false e

pub beyond_has : (n : ℕ) (s : System) → goes_beyond n s ≡ true → EntryBeyond n s
unfolding goes_beyond all_old_at old_at
beyond_has n s e =
    let p = some_fails n (all_old_at s) (not-true (all_up_to n (all_old_at s)) e) in
    let i = some_fails 32 (old_at s p.at) p.fails in
    let w = not_old (leb i.at 1) (is_written (entry_in s p.at i.at)) i.fails in
    record {
      process = p.at;
      index = i.at;
      first = p.low;
      last = p.high;
      beyond = leb-false i.at 1 w.0;
      inside = i.high;
      written = w.1;
    }

pub has_beyond : (n : ℕ) (s : System) → EntryBeyond n s → goes_beyond n s ≡ true
unfolding goes_beyond all_old_at old_at
has_beyond n s h =
    by_test (all_up_to n (all_old_at s))
    (λ all.
    let old = all_elim 32 (old_at s h.process) (all_elim n (all_old_at s) all h.process h.first h.last) h.index (omega (arith, h.beyond)) h.inside in
    true_is_not_false (sym old ∙ is_new (leb h.index 1) (is_written (entry_in s h.process h.index)) (late h.index h.beyond) h.written))
    (λ e. ap not e)
  where
    is_new : (a b : Bool) → a ≡ false → b ≡ true → (a || not b) ≡ false
    is_new a b e f = rw (e, f)

    late : (i : ℕ) → 2 ≤ i → leb i 1 ≡ false
    late i l = lt-leb i 1 l
