-- A fresh system is reached by no steps at all, with nothing accepted.
use Prim.Native.Nat.{ℕ, ◌≤◌}
use mathlib.Core.Path.{◌≡◌, refl, sym, ◌∙◌}
use mathlib.Core.List.{[]}
use mathlib.Core.Logic.{⊎_elim}
use native.Mathlib.Omega.{arith}
use Rattle.view.specs.Logic.{pick}
use Rattle.view.proofs.Laws.{true_is_not_false}
use Rattle.system.specs.declared.Process.{Process}
use Rattle.system.specs.declared.System.{System}
use Rattle.system.specs.System.{no_process, variables_at, entry_in}
use Rattle.system.specs.Fresh.{fresh_variables, fresh_process, fresh_system, fresh_of}
use Rattle.step.proofs.Beginning.{each_fresh, nothing_entered, first_or_none, nothing_recorded, nothing_waits, fresh_shape}
use Rattle.agreement.specs.Accepted.{accepted}
use Rattle.agreement.specs.Demand.{start}
use Rattle.agreement.proofs.Invariant.{Reached}

module _ (n : ℕ) where
  -- nothing is proposed
  pub fresh_proposal : (p : ℕ) → (variables_at (fresh_system n) p).proposal ≡ 0
  unfolding fresh_variables fresh_process no_process
  fresh_proposal p = each_fresh n (λ (x : Process). x.variables.proposal ≡ 0) refl refl p

  pub fresh_reached : Reached (fresh_system n) []
  unfolding accepted
  fresh_reached =
      record {
        shape = fresh_shape n;
        passed = λ u v i a. true_is_not_false (sym a);
        member = λ u v i a. true_is_not_false (sym a);
        one_view = λ u v w i a b. true_is_not_false (sym a);
        own = λ p. record { marks = λ u some. absurd (some (fresh_proposal p)); leads = λ some. absurd (some (fresh_proposal p)) };
        recorded = λ u q. rw (nothing_recorded n u q) tt;
        messages = λ q p. rw (nothing_waits n q p) tt;
        entries = λ p i low some. absurd (some (nothing_entered n p i low));
      }

-- ---- the system that a fresh one of any size starts with
started : (P : System → Type 0) → ((m : ℕ) → P (fresh_system m)) → (n : ℕ) → P (start n)
unfolding fresh_of pick
started P h n = grind arith

pub start_reached : (n : ℕ) → Reached (start n) []
start_reached = started (λ s. Reached s []) fresh_reached

pub start-empty : (n p i : ℕ) → 2 ≤ i → entry_in (start n) p i ≡ 0
start-empty n p i l = started (λ s. entry_in s p i ≡ 0) (λ m. nothing_entered m p i l) n

-- at index 1 each process has one and the same view, or none
pub start_first : (n p q : ℕ) → (entry_in (start n) p 1 ≡ 0 → ⊥) → (entry_in (start n) q 1 ≡ 0 → ⊥) → entry_in (start n) p 1 ≡ entry_in (start n) q 1
start_first n p q =
    started (λ s. (entry_in s p 1 ≡ 0 → ⊥) → (entry_in s q 1 ≡ 0 → ⊥) → entry_in s p 1 ≡ entry_in s q 1)
    (λ m hp hq. ⊎_elim (λ a. ⊎_elim (λ b. a ∙ sym b) (λ z. absurd (hq z)) (first_or_none m q)) (λ z. absurd (hp z)) (first_or_none m p))
    n
