-- Which alternative of Figure 3 a step takes, and the plan that this is. The code chooses, and goes from there straight to what is done.
use Rattle.std.specs.Prelude.{ℕ, ◌+◌, ◌<◌, Result, Ok, Err, None, Some}
use Rattle.view.specs.View.{with, minus, everyone}
use Rattle.view.specs.declared.ProcessId.{ProcessId}
use Rattle.channel.specs.declared.Message.TheVariants.{Propose, Commit}
use Rattle.system.specs.Process.{index, proposal_at}
use Rattle.system.specs.declared.refusal.Refusal.{Refusal}
use Rattle.system.specs.Refusal.{number}
use Rattle.system.specs.declared.Variables.{Variables}
use Rattle.plan.specs.declared.ReportChoice.{ReportChoice}
use Rattle.plan.specs.declared.ReportChoice.TheVariants.{Adopt, ProposeAfter}
use Rattle.plan.specs.declared.ReceiveChoice.{ReceiveChoice}
use Rattle.plan.specs.declared.ReceiveChoice.TheVariants.{Record, Skip, Mark, CommitAll, ProposeAgain, Enter}
use Rattle.plan.specs.declared.Reply.{Reply}
use Rattle.plan.specs.Fields.{with_view, with_next, with_acks, proposing, reproposing}
use Rattle.plan.specs.Plan.{Planned, assigning, recording, entering, sending, quietly, refusing, doubting}

-- ---- a report of view v, at a process of n whose variables are x
unfoldable pub reported_plan : ℕ → ℕ → Variables → Result ReportChoice Refusal → Planned
reported_plan n v x (Err r) = refusing (number r) x
reported_plan n v x (Ok Adopt) = doubting (minus (everyone n) v) (quietly (assigning (with_view x v)))
reported_plan n v x (Ok ProposeAfter) =
    doubting (minus (everyone n) v) (sending (assigning (proposing x v (x.propout.0 + 1))) v (Propose v (index (x.propout.0 + 1))))

-- the index after PropOut is in the history, where it is proposed at
abbrev pub report_fits : Variables → ReportChoice → Type 0
report_fits x Adopt = Unit {0}
report_fits x ProposeAfter = x.propout.0 < 32

-- ---- a message of process q, taken at a process whose variables are x
unfoldable pub received_plan : ProcessId → Variables → Result ReceiveChoice Refusal → Planned
received_plan q x (Err r) = refusing (number r) x
received_plan q x (Ok (Record v i)) = quietly (recording x q (Some (proposal_at v i)))
received_plan q x (Ok Skip) = quietly (assigning x)
received_plan q x (Ok (Mark acks)) = quietly (assigning (with_acks x acks))
received_plan q x (Ok CommitAll) = sending (assigning (with_acks x 0)) x.proposal (Commit x.proposal x.propout)
received_plan q x (Ok (ProposeAgain i)) = sending (assigning (reproposing x i.0)) x.view (Propose x.view i)
received_plan q x (Ok (Enter v i)) = quietly (entering x i.0 v)

-- ---- an answer to process q, by a process whose variables are x
unfoldable pub responded_plan : ProcessId → Variables → Result Reply Refusal → Planned
responded_plan q x (Err r) = refusing (number r) x
responded_plan q x (Ok y) = sending (recording (with_next x y.next.0) q None) (with 0 q.0) y.message
