-- The opening view is taken for one that every process has accepted at index 1, before the first step: so the opening view, with no
-- report at all, is a case like any other.
use Prim.Native.Nat.{ℕ, zero, suc, ◌≤◌, ◌<◌}
use mathlib.Core.Path.{◌≡◌, refl, sym, ◌∙◌}
use mathlib.Core.Bool.{true, ◌&&◌}
use mathlib.Core.List.{List, [], ◌∷◌}
use mathlib.Core.Logic.{⊎_elim}
use native.Mathlib.Omega.{arith}
use borrow.Author.Tests.{eqb-true, eq-eqb}
use lib.Dec.{eqb}
use Rattle.view.specs.Logic.{is_one_of}
use Rattle.view.specs.View.{everyone}
use Rattle.view.proofs.Laws.{and_left, and_right, and_intro, or_left, or_right, or_cases, by_number, true_is_not_false, one_of, is_one_of_lem}
use Rattle.view.proofs.Sets.{everyone-has}
use Rattle.system.specs.System.{variables_at}
use Rattle.system.specs.Fresh.{fresh_variables, fresh_system}
use Rattle.step.proofs.Beginning.{fresh_variables_lem, nothing_waits}
use Rattle.agreement.specs.Accepted.{Acceptance, accepted}
use Rattle.agreement.proofs.Invariant.{Reached, Grown, own_later, entered_later}
use Rattle.agreement.proofs.Beginning.{fresh_reached}

-- processes 1 to k have accepted view v at index 1
unfoldable pub opened_by : ℕ → ℕ → List Acceptance
opened_by zero v = []
opened_by (suc k) v = record { process = suc k; view = v; index = 1 } ∷ opened_by k v

-- all of n processes
abbrev pub opening : ℕ → List Acceptance
opening n = opened_by n (everyone n)

pub record Opened (k v u w i : ℕ) : Type 0 where
  pub low : 1 ≤ u
  pub high : u ≤ k
  pub view : w ≡ v
  pub index : i ≡ 1

pub opened_facts : (k v u w i : ℕ) → accepted (opened_by k v) u w i ≡ true → Opened k v u w i
unfolding opened_by accepted
opened_facts zero v u w i e = true_is_not_false (sym e)
opened_facts (suc k) v u w i e =
    ⊎_elim
    (λ this.
    let uv = and_left (eqb (suc k) u && eqb v w) (eqb 1 i) this in
    record {
      low = omega (arith, eqb-true (suc k) u (and_left (eqb (suc k) u) (eqb v w) uv));
      high = omega (arith, eqb-true (suc k) u (and_left (eqb (suc k) u) (eqb v w) uv));
      view = sym (eqb-true v w (and_right (eqb (suc k) u) (eqb v w) uv));
      index = sym (eqb-true 1 i (and_right (eqb (suc k) u && eqb v w) (eqb 1 i) this));
    })
    (λ rest.
    let f = opened_facts k v u w i rest in
    record { low = f.low; high = omega (arith, f.high); view = f.view; index = f.index })
    (or_cases (eqb (suc k) u && eqb v w && eqb 1 i) (accepted (opened_by k v) u w i) e)

pub opened-accepted : (k v u : ℕ) → 1 ≤ u → u ≤ k → accepted (opened_by k v) u v 1 ≡ true
unfolding opened_by accepted
opened-accepted zero v u low high = absurd (omega arith)
opened-accepted (suc k) v u low high =
    by_number u (suc k)
    (λ e. or_left (eqb (suc k) u && eqb v v && eqb 1 1) (accepted (opened_by k v) u v 1) (and_intro (and_intro (eq-eqb (suc k) u (sym e)) (eq-eqb v v refl)) (eq-eqb 1 1 refl)))
    (λ n. or_right (eqb (suc k) u && eqb v v && eqb 1 1) (accepted (opened_by k v) u v 1) (opened-accepted k v u low (omega arith)))

module _ (n : ℕ) (size : is_one_of 8 n ≡ true) where
  more : Grown [] (opening n)
  unfolding accepted
  more = record { still = λ u v i e. true_is_not_false (sym e) }

  fresh_next : (u : ℕ) → 1 ≤ u → u ≤ n → 1 < (variables_at (fresh_system n) u).next.0
  unfolding fresh_variables
  fresh_next u low high = grind (arith, fresh_variables_lem)

  -- a fresh system, with the opening view accepted
  pub fresh_opened : Reached (fresh_system n) (opening n)
  fresh_opened =
      let r = fresh_reached n in
      record {
        shape = r.shape;
        passed = λ u v i a.
            let f = opened_facts n (everyone n) u v i a in
            rw f.index (fresh_next u f.low f.high);
        member = λ u v i a.
            let f = opened_facts n (everyone n) u v i a in
            rw (f.view, everyone-has n u (one_of 8 n size).1) (is_one_of_lem n u f.low f.high);
        one_view = λ u v w i a b. (opened_facts n (everyone n) u v i a).view ∙ sym (opened_facts n (everyone n) u w i b).view;
        own = λ p. own_later more (r.own p);
        recorded = r.recorded;
        messages = λ q p. rw (nothing_waits n q p) tt;
        entries = λ p i low some. entered_later more (r.entries p i low some);
      }
