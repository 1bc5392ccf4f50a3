-- S-7, of every list of events from a fresh system: sent is taken, waiting and lost; a proposal is committed once; and the counts stay small.
use Rattle.std.specs.Prelude.{ℕ, ◌+◌, ◌*◌, ◌≤◌, ◌<◌, ◌≡◌, List, length}
use Rattle.system.specs.declared.System.{System}
use Rattle.system.specs.System.{variables_at}
use Rattle.system.specs.Fresh.{fresh_of}
use Rattle.plan.specs.Scope.{scope_of}
use Rattle.events.specs.Event.{Event, Move, made, moved, moves_in, Leads}
use Rattle.events.specs.Counts.{move_tally, fresh_tally}

-- "Each count is defined from the steps done; it must follow that sent equals taken plus waiting plus lost."
abbrev pub Conserved : ℕ → List Event → Type 0
Conserved n es = (fresh_tally n es).sent ≡ (fresh_tally n es).taken + (fresh_tally n es).waiting + (fresh_tally n es).lost

-- the moves made in a list of events: one for each that is done, so that they are never more than the events (`moves_few`)
abbrev pub moves_made : ℕ → List Event → ℕ
moves_made n es = length (moves_in (fresh_of n).system es)

-- a move sends at most eight messages, and makes or commits at most one proposal
pub record Few (n : ℕ) (es : List Event) : Type 0 where
  pub sent : (fresh_tally n es).sent ≤ 8 * moves_made n es
  pub taken : (fresh_tally n es).taken ≤ 8 * moves_made n es
  pub waiting : (fresh_tally n es).waiting ≤ 8 * moves_made n es
  pub lost : (fresh_tally n es).lost ≤ 8 * moves_made n es
  pub proposals : (fresh_tally n es).proposals ≤ moves_made n es
  pub committed : (fresh_tally n es).committed ≤ moves_made n es

-- the process that acts
unfoldable pub acting_in : Move → ℕ
acting_in (made o) = (scope_of o.action).actor.0

-- in s, the move is done, and process q sends Commits in it
pub record CommitsIn (s : System) (m : Move) (q : ℕ) : Type 0 where
  pub done : (moved s m).refusal ≡ 0
  pub counted : (move_tally s m).committed ≡ 1
  pub acting : acting_in m ≡ q

-- PropOut of process q: with q it names the proposal that q may commit
abbrev pub proposal_of : System → ℕ → ℕ
proposal_of s q = (variables_at s q).propout.0

-- Document 01: "committed if any Commit was sent". Commits of one proposal are sent in one move at most, so that to count these moves is to
-- count such proposals: after some moves q sends Commits, and after more moves it does so again; then PropOut is past what it was. Every list
-- of events makes such a list of moves.
abbrev pub OnceCommitted : ℕ → List Move → Move → List Move → Move → ℕ → Type 0
OnceCommitted n before first more second q =
    (s t : System)
    → Leads (fresh_of n).system before s
    → Leads (moved s first).system more t
    → CommitsIn s first q
    → CommitsIn t second q
    → proposal_of s q < proposal_of t q

-- so "the share of proposals for which a Commit was sent" is at most one
abbrev pub ShareAtMostOne : ℕ → List Event → Type 0
ShareAtMostOne n es = (fresh_tally n es).committed ≤ (fresh_tally n es).proposals
