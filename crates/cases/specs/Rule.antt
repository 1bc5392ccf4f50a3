-- The agreement rule at work on sheet K9: what its steps have accepted, the three agreements that leave K9's entries in the book, and
-- an agreement refused for each reason that the rule gives. A view is its byte: 1 is {1}, 2 is {2}, 3 is {1,2}.
use Rattle.std.specs.Prelude.{ℕ, Bool, true, false, List, [], ◌∷◌}
use Rattle.agreement.specs.Accepted.{Acceptance}
use Rattle.agreement.specs.Book.{Agreement, Book, opened_book, fed, admits}
use Rattle.agreement.specs.Demand.{start}

-- process p has accepted view v at index i
abbrev pub acceptance : ℕ → ℕ → ℕ → Acceptance
acceptance p v i = record { process = p; view = v; index = i }

-- view v at index i, for these processes to write
abbrev agree : ℕ → ℕ → ℕ → Agreement
agree v i recipients = record { view = v; index = i; recipients = recipients }

-- what the steps of K9 have accepted, in their order
unfoldable pub k9_accepted : List Acceptance
k9_accepted = acceptance 2 2 2 ∷ acceptance 2 2 3 ∷ acceptance 1 3 3 ∷ acceptance 1 3 4 ∷ acceptance 2 3 4 ∷ []

-- the agreements of K9
unfoldable pub k9_agreements : List Agreement
k9_agreements = agree 2 2 2 ∷ agree 2 3 2 ∷ agree 3 4 3 ∷ []

-- the book at the start of K9, after its first agreement, and after one at 4 of which process 1 alone is written
unfoldable pub k9_book : Book
k9_book = opened_book (start 2)

unfoldable pub at_two : Book
at_two = fed k9_accepted k9_book (agree 2 2 2)

unfoldable pub at_four : Book
at_four = fed k9_accepted k9_book (agree 3 4 1)

-- both processes have accepted {1,2} at 4, and process 1 has accepted {1} there too: no list of steps does that
unfoldable pub twice_accepted : List Acceptance
twice_accepted = acceptance 1 3 4 ∷ acceptance 2 3 4 ∷ acceptance 1 1 4 ∷ []

unfoldable pub shared : Book
shared = fed twice_accepted k9_book (agree 3 4 2)

pub record Trial : Type 0 where
  pub told : List Acceptance
  pub book : Book
  pub offered : Agreement
  pub makes : Bool

abbrev trial : List Acceptance → Book → Agreement → Bool → Trial
trial a b g x = record { told = a; book = b; offered = g; makes = x }

unfoldable pub trials : List Trial
trials =
    -- the first agreement, and after it the second
    trial k9_accepted k9_book (agree 2 2 2) true
    ∷ trial k9_accepted at_two (agree 2 3 2) true
    -- process 2 has not accepted {1,2} at 3
    ∷ trial k9_accepted k9_book (agree 3 3 1) false
    -- the index is below that of the last one made
    ∷ trial k9_accepted at_four (agree 2 2 2) false
    -- the index is not empty in the book at process 2
    ∷ trial k9_accepted at_two (agree 2 2 2) false
    -- index 4 is empty at process 1, but an agreement made there names it too
    ∷ trial twice_accepted k9_book (agree 1 4 1) true
    ∷ trial twice_accepted shared (agree 1 4 1) false
    -- nobody is to be written
    ∷ trial k9_accepted k9_book (agree 2 2 0) false
    -- another than a process of the view is to be written
    ∷ trial k9_accepted k9_book (agree 2 2 3) false
    ∷ []

-- by the rule
unfoldable pub admitted_by : Trial → Bool
admitted_by t = admits t.told t.book t.offered

-- by the trial
abbrev pub expected_answer : Trial → Bool
expected_answer t = t.makes
