-- Demand 3 of the user's words, of the system that a list of events leaves, with the first of them on a fresh system.
use Rattle.std.specs.Prelude.{ℕ, ◌≡◌, true, List, ◌++◌}
use Rattle.view.specs.View.{has}
use Rattle.system.specs.declared.System.{System}
use Rattle.system.specs.Fresh.{fresh_of}
use Rattle.system.specs.Process.{is_written}
use Rattle.system.specs.System.{entry_in}
use Rattle.events.specs.Event.{Event, ran}
use Rattle.agreement.specs.Accepted.{accepted_in}
use Rattle.agreement.specs.Book.{Agreement, book_entry, opened_book, fed_all, none_refused}

abbrev pub start : ℕ → System
start n = (fresh_of n).system

pub record Demand (n : ℕ) (es : List Event) : Type 0 where
  -- "after the list the written entries of all units are, position by position, exactly those that some agreements, made one at a
  -- time and none refused, leave in the book"
  pub agreements : List Agreement
  pub all_made : none_refused (accepted_in (start n) es) (opened_book (start n)) agreements ≡ true
  pub book_is : (p i : ℕ) → book_entry (fed_all (accepted_in (start n) es) (opened_book (start n)) agreements) p i ≡ entry_in (ran (start n) es) p i
  -- "An entry written after any first part of the list is the same after all of it."
  pub kept : (first rest : List Event) → first ++ rest ≡ es → (p i : ℕ) → is_written (entry_in (ran (start n) first) p i) ≡ true
      → entry_in (ran (start n) es) p i ≡ entry_in (ran (start n) first) p i
  -- "So two units never have two different views with a unit in common written at one position."
  pub consistent : (p q i u : ℕ) → has (entry_in (ran (start n) es) p i) u ≡ true → has (entry_in (ran (start n) es) q i) u ≡ true
      → entry_in (ran (start n) es) p i ≡ entry_in (ran (start n) es) q i
