-- Document 01: "Each history has positions 1 to 32, each empty or holding a view", and "Each unit also holds: whether it has
-- stopped; its local view; Next; PropOut; its last proposed view; the set of units that have acknowledged; and for each unit
-- one recorded proposal or none."
use Rattle.std.specs.Prelude.{ℕ, Bool, true, false, not, eqb, Option, None, replicate}
use Rattle.view.specs.declared.GroupIndex.{GroupIndex}
use Rattle.view.specs.Logic.{at, put}
use Rattle.system.specs.declared.History.{History}
use Rattle.system.specs.declared.Proposal.{Proposal}
use Rattle.system.specs.declared.Variables.{Variables}
use Rattle.system.specs.declared.Process.{Process}

-- the entry at index i: "the empty view there is the empty position"
unfoldable pub entry_at : History → ℕ → ℕ
entry_at h i = at h.entries i 0

-- "In the base, written means not empty."
abbrev pub is_written : ℕ → Bool
is_written v = not (eqb v 0)

unfoldable pub with_entry : History → ℕ → ℕ → History
with_entry h i v = record { entries = put h.entries i v }

abbrev pub no_entries : History
no_entries = record { entries = replicate 32 0 }

abbrev pub index : ℕ → GroupIndex
index i = record { 0 = i }

-- ---- the variables
-- v_p, Next, PropOut, v* and ack, all five
abbrev pub assigned : Variables → ℕ → GroupIndex → GroupIndex → ℕ → ℕ → Variables
assigned x view next propout proposal acks =
    record { crashed = x.crashed; view = view; next = next; propout = propout; proposal = proposal; acks = acks }

-- "whether it has stopped"
unfoldable pub as_crashed : Variables → Variables
as_crashed x =
    record { crashed = true; view = x.view; next = x.next; propout = x.propout; proposal = x.proposal; acks = x.acks }

abbrev pub no_variables : Variables
no_variables = record { crashed = false; view = 0; next = index 0; propout = index 0; proposal = 0; acks = 0 }

-- ---- the parts of a process
-- "for each unit one recorded proposal or none"
abbrev pub Pending : Type 0
Pending = Option Proposal

abbrev pub proposal_at : ℕ → GroupIndex → Proposal
proposal_at v i = record { view = v; index = i }

-- the proposal recorded from process q
unfoldable pub pending_at : Process → ℕ → Pending
pending_at x q = at x.pending q None

unfoldable pub with_variables : Process → Variables → Process
with_variables x y = record { variables = y; pending = x.pending; history = x.history }

unfoldable pub with_pending : Process → ℕ → Pending → Process
with_pending x q r = record { variables = x.variables; pending = put x.pending q r; history = x.history }

unfoldable pub with_history : Process → History → Process
with_history x h = record { variables = x.variables; pending = x.pending; history = h }
