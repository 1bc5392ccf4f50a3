-- What a made agreement writes in the book: its view, at its index, for its recipients; nothing else changes.
use Prim.Native.Nat.{ℕ, zero, suc, ◌≤◌}
use mathlib.Core.Path.{◌≡◌, sym, ◌∙◌, subst}
use mathlib.Core.Bool.{true}
use mathlib.Core.List.{List}
use native.Mathlib.Omega.{arith}
use lib.ListN.{length}
use Rattle.view.specs.Logic.{each_up_to, at}
use Rattle.view.specs.View.{has}
use Rattle.view.proofs.Laws.{at_put_same, at_put_other, length-put, each_put, true_is_not_false, by_number, by_pick, each_keeps}
use Rattle.view.proofs.Sets.{has_number}
use Rattle.system.specs.declared.History.{History}
use Rattle.system.specs.Process.{entry_at, with_entry, no_entries}
use Rattle.system.proofs.Histories.{entry_long, entry_same, entry_other}
use Rattle.agreement.specs.Book.{Agreement, written_in}

-- eight histories of thirty-two entries
pub record Long (hs : List History) : Type 0 where
  pub histories : length hs ≡ 8
  pub entries : (p : ℕ) → length (at hs p no_entries).entries ≡ 32

module _ (g : Agreement) where
  abbrev page : List History → ℕ → History
  page hs k = with_entry (at hs k no_entries) g.index g.view

  long_written : (k : ℕ) → 1 ≤ k → k ≤ 8 → (hs : List History) → Long hs → Long (written_in g k hs)
  unfolding written_in
  long_written k l u hs long =
      by_pick Long _ _ _
      (λ named.
      record {
        histories = length-put hs k _ ∙ long.histories;
        entries = each_put (λ j (h : History). length h.entries ≡ 32) hs k (page hs k) no_entries
            (λ a b. entry_long (at hs k no_entries) g.index g.view ∙ long.entries k)
            long.entries;
      })
      (λ un. long)

  pub made_long : (hs : List History) → Long hs → Long (each_up_to 8 (written_in g) hs)
  made_long hs long = each_keeps Long 8 (written_in g) long_written hs long

  module _ (low : 1 ≤ g.index) (high : g.index ≤ 32) (w j : ℕ) (P : ℕ → Type 0) where
    -- the entry of w at j after the turn of process k
    turn_entry : (hs : List History) → Long hs → (k : ℕ) → 1 ≤ k → k ≤ 8 → (has g.recipients k ≡ true → w ≡ k → j ≡ g.index → P g.view)
        → ((has g.recipients k ≡ true → w ≡ k → j ≡ g.index → ⊥) → P (entry_at (at hs w no_entries) j))
        → P (entry_at (at (written_in g k hs) w no_entries) j)
    unfolding written_in
    turn_entry hs long k l u here there =
        by_pick (λ (xs : List History). P (entry_at (at xs w no_entries) j)) (has g.recipients k) _ hs
        (λ named.
        by_number w k
        (λ e.
        rw (e, at_put_same hs k (page hs k) no_entries l (omega (arith, long.histories)))
        (by_number j g.index
        (λ q. rw (q, entry_same (at hs k no_entries) g.index g.view low (omega (arith, long.entries k))) (here named e q))
        (λ f. rw (entry_other (at hs k no_entries) g.index g.view j f, ← e) (there (λ h a b. f b)))))
        (λ f. rw (at_put_other hs k w (page hs k) no_entries f) (there (λ h a b. f a))))
        (λ un. there (λ h a b. true_is_not_false (sym h ∙ un)))

    turns_entry : (hs : List History) → Long hs → (k : ℕ) → k ≤ 8 → (has g.recipients w ≡ true → w ≤ k → j ≡ g.index → P g.view)
        → ((has g.recipients w ≡ true → w ≤ k → j ≡ g.index → ⊥) → P (entry_at (at hs w no_entries) j))
        → P (entry_at (at (each_up_to k (written_in g) hs) w no_entries) j)
    unfolding each_up_to
    turns_entry hs long zero h new old = old (λ n l q. absurd (omega (arith, has_number g.recipients w n)))
    turns_entry hs long (suc k) h new old =
        turn_entry (each_up_to k (written_in g) hs) (each_keeps Long k (written_in g) (λ i a b. long_written i a (omega arith)) hs long) (suc k) (omega arith) h
        (λ n e q. new (subst (λ (z : ℕ). has g.recipients z ≡ true) (sym e) n) (omega arith) q)
        (λ other.
        turns_entry hs long k (omega arith)
        (λ n l q. new n (omega arith) q)
        (λ before.
        old
        (λ n l q.
        by_number w (suc k)
        (λ e. other (subst (λ (z : ℕ). has g.recipients z ≡ true) e n) e q)
        (λ f. before n (omega arith) q))))

    -- the entry of w at j in the book: the view, if w is a recipient and j the index, or as before
    pub made_entry : (hs : List History) → Long hs → (has g.recipients w ≡ true → j ≡ g.index → P g.view)
        → ((has g.recipients w ≡ true → j ≡ g.index → ⊥) → P (entry_at (at hs w no_entries) j))
        → P (entry_at (at (each_up_to 8 (written_in g) hs) w no_entries) j)
    made_entry hs long new old =
        turns_entry hs long 8 (omega arith) (λ n l q. new n q) (λ f. old (λ n q. f n (has_number g.recipients w n).1 q))
