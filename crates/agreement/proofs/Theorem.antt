-- Demand 3: for a fresh system of any size and for every list of steps, whole or cut, refused ones included.
use Prim.Native.Nat.{ℕ, zero, suc, ◌≤◌, ◌<◌}
use mathlib.Core.Path.{◌≡◌, refl, sym, ◌∙◌, ap, subst}
use mathlib.Core.Bool.{true}
use mathlib.Core.List.{List, [], ◌∷◌, map}
use mathlib.Core.Logic.{⊎_elim}
use native.Mathlib.Omega.{arith}
use native.Mathlib.Decide.{dec_le}
use native.Mathlib.Nat.{lt_of_not-le}
use borrow.Author.Tests.{eqb-false, not-true}
use lib.ListN.{length, length-map}
use Rattle.view.specs.Logic.{at}
use Rattle.view.specs.View.{has}
use Rattle.system.specs.declared.Process.{Process}
use Rattle.system.specs.declared.System.{System}
use Rattle.system.specs.Process.{no_entries}
use Rattle.system.specs.System.{no_process, process_at, entry_in}
use Rattle.system.proofs.Histories.{entry_zero, entry_past}
use Rattle.events.specs.Event.{Event, ran}
use Rattle.events.proofs.Moves.{ran_append}
use Rattle.agreement.specs.Accepted.{Acceptance, accepted_in}
use Rattle.agreement.specs.Book.{Agreement, book_entry, opened_book, fed_all}
use Rattle.agreement.specs.Demand.{start, Demand}
use Rattle.agreement.proofs.Beginning.{start_reached, start-empty, start_first}
use Rattle.agreement.proofs.Feed.{Feeding, InBook, Through, Fed, candidates, fed_through, made_among, made_not_refused, made_same_book, numbered_or_none}
use Rattle.agreement.proofs.Invariant.{Reached}
use Rattle.agreement.proofs.Pages.{Long}
use Rattle.view.proofs.Sets.{not_empty}
use Rattle.agreement.proofs.Steps.{run_after}

-- ---- the book at the start
at_map : {A B : Type 0} (f : A → B) (l : List A) (k : ℕ) (d : A) → at (map f l) k (f d) ≡ f (at l k d)
unfolding at
at_map f l zero d = refl
at_map f [] (suc k) d = refl
at_map f (x ∷ l) (suc zero) d = refl
at_map f (x ∷ l) (suc (suc k)) d = at_map f l (suc k) d

opened_history : (s : System) (p : ℕ) → at (opened_book s).histories p no_entries ≡ (process_at s p).history
unfolding opened_book process_at no_process
opened_history s p = at_map (λ (x : Process). x.history) s.processes p no_process

opened_entry : (s : System) (p i : ℕ) → book_entry (opened_book s) p i ≡ entry_in s p i
unfolding book_entry entry_in
opened_entry s p i = rw (opened_history s p)

opened-length : (s : System) → length s.processes ≡ 8 → length (opened_book s).histories ≡ 8
unfolding opened_book
opened-length s e = length-map s.processes (λ (x : Process). x.history) ∙ e

opened_long : (s : System) (acc : List Acceptance) → Reached s acc → Long (opened_book s).histories
opened_long s acc r = grind (arith, opened-length, opened_history)

-- ---- from a system that is empty past index 1
module _ (s : System) (beginning : Reached s []) (empty : (p i : ℕ) → 2 ≤ i → entry_in s p i ≡ 0) (es : List Event) where
  abbrev t : System
  t = ran s es

  abbrev acc : List Acceptance
  acc = accepted_in s es

  reached : Reached t acc
  unfolding accepted_in
  reached = (run_after s [] es beginning).reached

  first_same : (p i : ℕ) → i < 2 → entry_in t p i ≡ entry_in s p i
  first_same = (run_after s [] es beginning).since.first

  opened_in_book : (p i : ℕ) → i < 2 → InBook t acc reached (opened_book s) p i
  opened_in_book p i l = opened_entry s p i ∙ sym (first_same p i l)

  opened-empty : (p i : ℕ) → 2 ≤ i → book_entry (opened_book s) p i ≡ 0
  opened-empty p i l = opened_entry s p i ∙ empty p i l

  opened_feeding : Feeding t acc reached (opened_book s)
  unfolding opened_book
  opened_feeding =
      record {
        long = opened_long s [] beginning;
        agrees = λ p i. grind (arith, opened-empty, opened_in_book);
        together = λ u w i some same. grind (arith, opened-empty, opened_in_book);
        made = tt;
      }

  opened_last : (opened_book s).last ≤ 1
  unfolding opened_book
  opened_last = omega arith

  -- ---- the book after all candidates
  fed_book : Fed t acc reached (opened_book s) (fed_all acc (opened_book s) (candidates t acc reached 31)) 32 (Through t acc reached 31)
  fed_book = fed_through t acc reached (opened_book s) 31 (omega arith) opened_feeding opened_last

  past_the_end : (p i : ℕ) → 32 < i → entry_in t p i ≡ 0
  past_the_end p i h = grind (arith, entry_past, reached)

  all_in_book : (p i : ℕ) → book_entry (fed_all acc (opened_book s) (candidates t acc reached 31)) p i ≡ entry_in t p i
  all_in_book p i =
      elim (dec_le 2 i) [
        | yes l ↦
            elim (dec_le i 32) [
              | yes h ↦ ⊎_elim (λ number. fed_book.in_book p i (number, l, h)) (λ none. or_none (none i)) (numbered_or_none t acc reached p)
              | no h ↦ or_none (past_the_end p i (lt_of_not-le h))
            ]
        | no h ↦ fed_book.kept p i (opened_in_book p i (lt_of_not-le h))
      ]
    where
      or_none : entry_in t p i ≡ 0 → book_entry (fed_all acc (opened_book s) (candidates t acc reached 31)) p i ≡ entry_in t p i
      or_none z = ⊎_elim (λ e. e ∙ sym z) (λ e. e) (fed_book.feeding.agrees p i)

  abbrev agreements : List Agreement
  agreements = made_among acc (opened_book s) (candidates t acc reached 31)

  book_is : (p i : ℕ) → book_entry (fed_all acc (opened_book s) agreements) p i ≡ entry_in t p i
  book_is p i = grind (arith, made_same_book, all_in_book)

  -- ---- one view
  consistent : ((p q : ℕ) → (entry_in s p 1 ≡ 0 → ⊥) → (entry_in s q 1 ≡ 0 → ⊥) → entry_in s p 1 ≡ entry_in s q 1)
      → (p q i u : ℕ)
      → has (entry_in t p i) u ≡ true
      → has (entry_in t q i) u ≡ true
      → entry_in t p i ≡ entry_in t q i
  consistent first p q i u hp hq =
      elim (dec_le 2 i) [
        | yes l ↦
            reached.one_view u (entry_in t p i) (entry_in t q i) i
            ((reached.entries p i l (not_empty (entry_in t p i) u hp)).agreed u hp)
            ((reached.entries q i l (not_empty (entry_in t q i) u hq)).agreed u hq)
        | no h ↦ early i (lt_of_not-le h) hp hq
      ]
    where
      early : (j : ℕ) → j < 2 → has (entry_in t p j) u ≡ true → has (entry_in t q j) u ≡ true → entry_in t p j ≡ entry_in t q j
      early zero l a b = absurd (not_empty (entry_in t p 0) u a (entry_zero t p))
      early (suc zero) l a b =
          first_same p 1 l
          ∙ first p q (λ z. not_empty (entry_in t p 1) u a (first_same p 1 l ∙ z)) (λ z. not_empty (entry_in t q 1) u b (first_same q 1 l ∙ z))
          ∙ sym (first_same q 1 l)
      early (suc (suc j)) l a b = absurd (omega arith)

-- ---- what is written stays
pub demand_3 : (n : ℕ) (es : List Event) → Demand n es
unfolding accepted_in
demand_3 n es =
    record {
      agreements = agreements (start n) (start_reached n) (start-empty n) es;
      all_made = grind (arith, made_not_refused);
      book_is = book_is (start n) (start_reached n) (start-empty n) es;
      kept = λ first rest e p i written.
          subst (λ (l : List Event). entry_in (ran (start n) l) p i ≡ entry_in (ran (start n) first) p i) e
          (ap (λ (x : System). entry_in x p i) (ran_append (start n) first rest)
          ∙ (run_after (ran (start n) first) (accepted_in (start n) first) rest (run_after (start n) [] first (start_reached n)).reached).since.written p i
          (eqb-false (entry_in (ran (start n) first) p i) 0 (not-true _ written)));
      consistent = grind (arith, consistent, start_reached, start-empty, start_first);
    }
