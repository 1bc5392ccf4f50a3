-- Document 01, "Agreement rule": "The book of demand 3 starts as the fresh table's histories and is fed agreements: a view, a
-- position, the units to write."
use Rattle.std.specs.Prelude.{ℕ, Bool, true, ◌&&◌, ◌||◌, not, List, [], ◌∷◌, map, leb, eqb}
use Rattle.view.specs.Logic.{pick, all_up_to, each_up_to, at, put}
use Rattle.view.specs.View.{has}
use Rattle.system.specs.declared.History.{History}
use Rattle.system.specs.declared.Process.{Process}
use Rattle.system.specs.declared.System.{System}
use Rattle.system.specs.Process.{entry_at, with_entry, no_entries, is_written}
use Rattle.agreement.specs.Accepted.{Acceptance, accepted}

pub record Agreement : Type 0 where
  pub view : ℕ
  pub index : ℕ
  pub recipients : ℕ

-- each process's history, the index of the last agreement made, and those made
pub record Book : Type 0 where
  pub histories : List History
  pub last : ℕ
  pub made : List Agreement

unfoldable pub book_entry : Book → ℕ → ℕ → ℕ
book_entry b p i = entry_at (at b.histories p no_entries) i

-- a book that starts as the histories of a system
unfoldable pub opened_book : System → Book
opened_book s = record { histories = map (λ (x : Process). x.history) s.processes; last = 0; made = [] }

-- the two share no process
unfoldable pub apart : ℕ → ℕ → Bool
apart v w = all_up_to 8 (λ u. not (has v u && has w u))

unfoldable pub apart_from : Agreement → List Agreement → Bool
apart_from g [] = true
apart_from g (h ∷ hs) = (not (eqb h.index g.index) || apart h.view g.view) && apart_from g hs

-- "One is made if every unit of the view has accepted that view there (told from the list by the rules above), the position is
-- not below that of the last one made and is empty in the book at each of them, no agreement made there shares a unit with it, and
-- one or more of them, no others, are to be written."
unfoldable pub admits : List Acceptance → Book → Agreement → Bool
admits acc b g =
    all_up_to 8 (λ u. not (has g.view u) || accepted acc u g.view g.index)
    && leb b.last g.index
    && all_up_to 8 (λ u. not (has g.view u) || not (is_written (book_entry b u g.index)))
    && apart_from g b.made
    && not (all_up_to 8 (λ u. not (has g.recipients u)))
    && all_up_to 8 (λ u. not (has g.recipients u) || has g.view u)

unfoldable pub written_in : Agreement → ℕ → List History → List History
written_in g u hs = pick (has g.recipients u) (put hs u (with_entry (at hs u no_entries) g.index g.view)) hs

-- "Those get the view there, and nothing else changes."
unfoldable pub made_in : Book → Agreement → Book
made_in b g =
    record { histories = each_up_to 8 (written_in g) b.histories; last = g.index; made = g ∷ b.made }

-- "Any other is refused and changes nothing."
unfoldable pub fed : List Acceptance → Book → Agreement → Book
fed acc b g = pick (admits acc b g) (made_in b g) b

unfoldable pub fed_all : List Acceptance → Book → List Agreement → Book
fed_all acc b [] = b
fed_all acc b (g ∷ gs) = fed_all acc (fed acc b g) gs

unfoldable pub none_refused : List Acceptance → Book → List Agreement → Bool
none_refused acc b [] = true
none_refused acc b (g ∷ gs) = admits acc b g && none_refused acc (fed acc b g) gs
