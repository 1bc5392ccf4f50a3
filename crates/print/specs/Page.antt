-- The output: a lent buffer and the place in it where the next byte goes. A byte for which the buffer has no room is dropped.
use Rattle.std.specs.Prelude.{ℕ, ◌+◌, ◌≡◌, ◌≤◌, List, [], ◌∷◌, ◌++◌, ltb, length, set, drop}
use Rattle.std.specs.Borrow.{MutBor}
use Rattle.view.specs.Logic.{pick}
use Rattle.print.specs.declared.Page.{Page as LentPage}

pub record Page : Type 0 where
  pub buffer : List ℕ
  pub place : ℕ

abbrev pub page : List ℕ → ℕ → Page
page b n = record { buffer = b; place = n }

unfoldable pub typed_byte : Page → ℕ → Page
typed_byte p b = pick (ltb p.place (length p.buffer)) (page (set p.buffer p.place b) (p.place + 1)) p

-- a text, byte after byte
unfoldable pub typed : Page → List ℕ → Page
typed p [] = p
typed p (b ∷ bs) = typed (typed_byte p b) bs

-- ---- the page of the code, which has a reference to the buffer
abbrev pub page_from : MutBor (List ℕ) → ℕ → LentPage
page_from b n = record { buffer = b; place = n }

-- what it holds
abbrev pub page_of : LentPage → Page
page_of p = page p.buffer.now p.place

-- the same page, holding q
abbrev pub with_page : LentPage → Page → LentPage
with_page p q = record p { buffer = record p.buffer { now = q.buffer }; place = q.place }

unfoldable pub typed_on : LentPage → List ℕ → LentPage
typed_on p t = with_page p (typed (page_of p) t)

-- ---- a text that was printed into a buffer with room for it
-- it is the buffer's first bytes, as many as the count says, and the others are as they were
pub record StandsFirst (room : ℕ) (text : List ℕ) (count : ℕ) (before after : List ℕ) : Type 0 where
  pub counted : count ≡ length text
  pub printed : after ≡ text ++ drop count before
  pub within : count ≤ room
