-- Tallies of short lists of events, computed. What each is to be is read off document 01's words, not off the program.
use Rattle.std.specs.Prelude.{ℕ, ◌≡◌, List, [], ◌∷◌}
use Rattle.view.specs.declared.ProcessId.{ProcessId}
use Rattle.tallies.specs.declared.Tally.{Tally}
use Rattle.plan.specs.declared.Action.TheVariants.{Report, Receive, Respond, Crash}
use Rattle.plan.specs.Cut.{whole, cut_after}
use Rattle.events.specs.Event.{Event, does}
use Rattle.system.specs.Fresh.{fresh_of}
use Rattle.events.specs.Counts.{done_tally, fresh_tally}

-- ---- the lines of a sheet
abbrev process : ℕ → ProcessId
process k = record { 0 = k }

-- process p reports view v
abbrev pub r : ℕ → ℕ → Event
r p v = does (whole (Report (process p) v))

-- a take, from q at p
abbrev pub t : ℕ → ℕ → Event
t q p = does (whole (Receive (process q) (process p)))

-- p answers q
abbrev pub a : ℕ → ℕ → Event
a p q = does (whole (Respond (process p) (process q)))

-- p stops
abbrev pub x : ℕ → Event
x p = does (whole (Crash (process p)))

-- cut after the first k messages
abbrev pub report_cut : ℕ → ℕ → ℕ → Event
report_cut p v k = does (cut_after (Report (process p) v) k)

abbrev pub take_cut : ℕ → ℕ → ℕ → Event
take_cut q p k = does (cut_after (Receive (process q) (process p)) k)

-- "sent A taken B waiting C lost D", and of so many proposals so many are committed
abbrev pub counting : ℕ → ℕ → ℕ → ℕ → ℕ → ℕ → Tally
counting sent taken waiting lost proposals committed =
    record { sent = sent; taken = taken; waiting = waiting; lost = lost; proposals = proposals; committed = committed }

unfoldable pub short_tallies : List Tally
short_tallies =
    -- a stop clears the Propose to 2; the second Propose to 2 is sent, and vanishes
    fresh_tally 2 (r 1 3 ∷ x 2 ∷ r 1 3 ∷ [])
    -- a report cut after two of three messages: that to 1 itself is cleared by the stop
    ∷ fresh_tally 3 (report_cut 1 7 2 ∷ [])
    -- cut before its first message: still a proposal
    ∷ fresh_tally 2 (report_cut 1 3 0 ∷ [])
    -- the take that would commit, cut before the first Commit: the Acc is taken
    ∷ fresh_tally 1 (r 1 1 ∷ t 1 1 ∷ a 1 1 ∷ take_cut 1 1 0 ∷ [])
    -- a take from an empty channel is refused, and counts nothing, asked of it alone too
    ∷ fresh_tally 1 (t 1 1 ∷ [])
    ∷ done_tally (fresh_of 1).system (whole (Receive (process 1) (process 1)))
    ∷ []

abbrev pub ShortlyTallied : Type 0
ShortlyTallied =
    short_tallies ≡ counting 4 0 2 2 2 0
    ∷ counting 2 0 1 1 1 0
    ∷ counting 0 0 0 0 1 0
    ∷ counting 2 2 0 0 1 0
    ∷ counting 0 0 0 0 0 0
    ∷ counting 0 0 0 0 0 0
    ∷ []
