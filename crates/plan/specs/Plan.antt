-- Figure 3, guarded command by guarded command: what process p, whose variables are x, does. Each sends one message to a set of
-- processes, or none to the empty set, or is refused with a number of document 01's refusal table.
use Rattle.std.specs.Prelude.{ℕ, ◌+◌, Bool, true, false, ◌&&◌, not, None, Some, Option, leb, ltb, eqb}
use Rattle.view.specs.Logic.{pick, unless, put}
use Rattle.view.specs.View.{has, within, subset, with, minus, everyone, least_of}
use Rattle.view.specs.declared.ProcessId.{ProcessId}
use Rattle.channel.specs.declared.Message.{Message}
use Rattle.channel.specs.declared.Message.TheVariants.{Propose, Retry, Acc, Commit}
use Rattle.system.specs.declared.Variables.{Variables}
use Rattle.system.specs.declared.Process.{Process}
use Rattle.system.specs.Process.{Pending, proposal_at, index, with_entry}
use Rattle.plan.specs.declared.Action.{Action}
use Rattle.plan.specs.declared.Action.TheVariants.{Report, Receive, Respond, Crash}
use Rattle.plan.specs.declared.Change.{Change}
use Rattle.plan.specs.Fields.{with_view, with_next, with_acks, proposing, reproposing}

-- ---- what becomes of the acting process
-- its variables
abbrev pub assigning : Variables → Change
assigning x = record { variables = x; proposer = record { 0 = 0 }; pending = None; index = index 0; entry = 0 }

-- its variables, and the record of what process q has proposed
abbrev pub recording : Variables → ProcessId → Pending → Change
recording x q r = record { variables = x; proposer = q; pending = r; index = index 0; entry = 0 }

-- its history at index i
abbrev pub entering : Variables → ℕ → ℕ → Change
entering x i v = record { variables = x; proposer = record { 0 = 0 }; pending = None; index = index i; entry = v }

-- the process after the change. No record is from a process 0 and no entry at an index 0, so that nothing changes there
unfoldable pub changed : Process → Change → Process
changed x c =
    record {
      variables = c.variables;
      pending = put x.pending c.proposer.0 c.pending;
      history = with_entry x.history c.index.0 c.entry;
    }

-- ---- plans
-- what is planned for a step: it is refused with this number; or, at 0, the acting process changes so, sends the message to each of the
-- addressees, and then stops or not; it comes to suspect some processes, or goes on to
pub record Planned : Type 0 where
  pub refusal : ℕ
  pub change : Change
  pub stops : Bool
  pub addressees : ℕ
  pub message : Message
  pub suspects : ℕ

abbrev pub plan : ℕ → Change → Bool → ℕ → Message → ℕ → Planned
plan k c stops to m suspects =
    record { refusal = k; change = c; stops = stops; addressees = to; message = m; suspects = suspects }

-- the process changes so, and m goes to each process of the view
abbrev pub sending : Change → ℕ → Message → Planned
sending c to m = plan 0 c false to m 0

abbrev pub no_message : Message
no_message = Propose 0 (index 0)

-- the process changes so and nothing is sent: Figure 3's skip, and its commands that send nothing
abbrev pub quietly : Change → Planned
quietly c = sending c 0 no_message

abbrev pub refusing : ℕ → Variables → Planned
refusing k x = plan k (assigning x) false 0 no_message 0

-- the same plan, by which the process comes to suspect those of a set, or goes on to
abbrev pub doubting : ℕ → Planned → Planned
doubting suspects a = plan a.refusal a.change a.stops a.addressees a.message suspects

-- First guarded command, a report of view v:
--   local?(v_p); [ p = min(v_p) → PropOut := PropOut + 1; v* := v_p; SN_q! Propose(v*, PropOut) for q in v*; ack := 0
--   [] else → skip ]
-- Refusal 6: "by the least unit of its view with PropOut 32". Whom the new view lacks, of 1 to n, p suspects.
unfoldable pub new_view_plan : ℕ → ℕ → ℕ → Variables → Planned
new_view_plan n p v x =
    pick (eqb (least_of v).0 p)
    (unless (ltb x.propout.0 32) (refusing 6 x)
    (doubting (minus (everyone n) v)
    (sending (assigning (proposing x v (x.propout.0 + 1))) v (Propose v (index (x.propout.0 + 1))))))
    (doubting (minus (everyone n) v) (quietly (assigning (with_view x v))))

-- Refusal 4: "a report names a unit beyond n, or lacks its own unit". Refusal 13, of S-5: "a report that brings back a unit q is refused
-- unless .. q's local view lacked p": unless p, whose set of trust this is, may trust q again.
unfoldable pub report_plan : ℕ → ℕ → ℕ → Variables → ℕ → Planned
report_plan n p v x trust =
    unless (within n v && has v p) (refusing 4 x)
    (unless (subset (minus v x.view) trust) (refusing 13 x)
    (new_view_plan n p v x))

-- Second guarded command, Acc, once the mark is made:
--   [ ∀ q in v*: ack[q] = 1 → SN_q! Commit(v*, PropOut) for q in v*; ack := 0 [] else → skip ]
-- Document 01's departure: "while the last proposed view is empty, an Acc sends nothing and clears no marks".
unfoldable pub committing_plan : Variables → Planned
committing_plan x =
    pick (not (eqb x.proposal 0) && subset x.proposal x.acks)
    (sending (assigning (with_acks x 0)) x.proposal (Commit x.proposal x.propout))
    (quietly (assigning x))

-- Second guarded command: R_q?m at p, by the type of m.
unfoldable pub message_plan : ProcessId → ℕ → Variables → Message → Planned
--   Propose → (v[q], PropIn[q]) := m; Prop[q] := true
message_plan q p x (Propose v i) = quietly (recording x q (Some (proposal_at v i)))
--   Retry → (old, new) := m; [ PropOut = old ∧ p = min(v_p) → PropOut := new; SN_q! Propose(v_p, PropOut) for q in v_p; ack := 0
--   [] else → skip ]. Refusal 6: "a Retry that would be acted on, with new 33".
message_plan q p x (Retry old new) =
    pick (eqb x.propout.0 old.0 && eqb (least_of x.view).0 p)
    (unless (leb new.0 32) (refusing 6 x) (sending (assigning (reproposing x new.0)) x.view (Propose x.view new)))
    (quietly (assigning x))
--   Acc → i := m; [ PropOut = i → ack[q] := 1 [] else → skip ]; and then as above, stale or not
message_plan q p x (Acc i) = committing_plan (pick (eqb x.propout.0 i.0) (with_acks x (with x.acks q.0)) x)
--   Commit → (view, i) := m; V_pi := view
message_plan q p x (Commit v i) = quietly (entering x i.0 v)

-- the oldest message of the channel, if one waits. Refusal 5: "taking from an empty line".
unfoldable pub receive_plan : ProcessId → ℕ → Variables → Option Message → Planned
receive_plan q p x None = refusing 5 x
receive_plan q p x (Some m) = message_plan q p x m

-- Third guarded command, for what is recorded from q:
--   Prop[q] ∧ (v[q] = v_p) → Prop[q] := false; [ PropIn[q] < Next → SN_q! Retry(PropIn[q], Next)
--   [] PropIn[q] ≥ Next → Next = PropIn[q] + 1; SN_q! Acc(PropIn[q]) ]
-- Refusals 10 and 11, "both in the place of 5 in the order": "An answer with no record gets its own number, and so does one whose
-- recorded view is not the local view."
-- A record past index 32 stands in no sound system: the number is 1, so that no index passes 33.
unfoldable pub respond_plan : ProcessId → Variables → Pending → Planned
respond_plan q x None = refusing 10 x
respond_plan q x (Some r) =
    unless (eqb r.view x.view) (refusing 11 x)
    (pick (ltb r.index.0 x.next.0)
    (sending (recording x q None) (with 0 q.0) (Retry r.index x.next))
    (unless (leb r.index.0 32) (refusing 1 x) (sending (recording (with_next x (r.index.0 + 1)) q None) (with 0 q.0) (Acc r.index))))

-- a stop: nothing changes but that the process stops, and nothing is sent
abbrev pub crash_plan : Variables → Planned
crash_plan x = plan 0 (assigning x) true 0 no_message 0

-- What the acting process plans for an action, where it is not cut: handed how many processes there are, its variables, whom it may trust
-- again, the oldest message from the partner and what it has recorded from it
abbrev pub plan_from : ℕ → Action → Variables → ℕ → Option Message → Pending → Planned
plan_from n (Report p v) x trust front pending = report_plan n p.0 v x trust
plan_from n (Receive q p) x trust front pending = receive_plan q p.0 x front
plan_from n (Respond p q) x trust front pending = respond_plan q x pending
plan_from n (Crash p) x trust front pending = crash_plan x
