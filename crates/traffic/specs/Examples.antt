-- Tallies of longer lists of events, computed. What each is to be is read off document 01's words, not off the program.
use Rattle.std.specs.Prelude.{◌≡◌, List, [], ◌∷◌}
use Rattle.tallies.specs.declared.Tally.{Tally}
use Rattle.events.specs.Counts.{fresh_tally}
use Rattle.events.specs.Tallied.{r, t, a, x, take_cut, counting}

unfoldable pub worked_tallies : List Tally
worked_tallies =
    -- K1. The last line is refused, and counts nothing
    fresh_tally 2 (r 1 1 ∷ t 1 1 ∷ a 1 1 ∷ t 1 1 ∷ t 1 1 ∷ r 2 1 ∷ [])
    -- K3. The ninth report finds no room: of eight proposals the last is committed
    ∷ fresh_tally 1
    (r 1 1 ∷ r 1 1 ∷ r 1 1 ∷ r 1 1 ∷ r 1 1 ∷ r 1 1 ∷ r 1 1 ∷ r 1 1 ∷ r 1 1 ∷ t 1 1 ∷ t 1 1 ∷ t 1 1 ∷ t 1 1 ∷ t 1 1 ∷ t 1 1 ∷ t 1 1 ∷ t 1 1
    ∷ a 1 1 ∷ t 1 1 ∷ t 1 1 ∷ [])
    -- two proposals of one process, both committed
    ∷ fresh_tally 1 (r 1 1 ∷ t 1 1 ∷ a 1 1 ∷ t 1 1 ∷ t 1 1 ∷ r 1 1 ∷ t 1 1 ∷ a 1 1 ∷ t 1 1 ∷ [])
    -- a message of a stopped process waits on, and is taken
    ∷ fresh_tally 2 (r 1 3 ∷ x 1 ∷ t 1 2 ∷ [])
    -- the take that commits, cut after the Commit to 1 itself, which is cleared: it was sent
    ∷ fresh_tally 2 (r 1 3 ∷ t 1 1 ∷ a 1 1 ∷ t 1 1 ∷ t 1 2 ∷ a 2 1 ∷ take_cut 2 1 1 ∷ [])
    -- a Retry(3,5) is acted on: one proposal more, though PropOut rises by two
    ∷ fresh_tally 2 (r 2 2 ∷ r 2 2 ∷ r 2 2 ∷ t 2 2 ∷ t 2 2 ∷ t 2 2 ∷ a 2 2 ∷ r 1 1 ∷ r 2 3 ∷ r 1 3 ∷ t 1 2 ∷ a 2 1 ∷ t 2 1 ∷ [])
    -- nothing is done in a system of zero processes
    ∷ fresh_tally 9 (r 1 1 ∷ [])
    ∷ []

abbrev pub WorkedOut : Type 0
WorkedOut =
    worked_tallies ≡ counting 3 3 0 0 1 1
    ∷ counting 10 10 0 0 8 1
    ∷ counting 6 5 1 0 2 2
    ∷ counting 2 1 0 1 1 0
    ∷ counting 5 4 0 1 1 1
    ∷ counting 10 5 5 0 6 0
    ∷ counting 0 0 0 0 0 0
    ∷ []
