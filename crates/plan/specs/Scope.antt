-- Whom an action names.
use Rattle.std.specs.Prelude.{true, false}
use Rattle.view.specs.declared.ProcessId.{ProcessId}
use Rattle.plan.specs.declared.Action.{Action}
use Rattle.plan.specs.declared.Action.TheVariants.{Report, Receive, Respond, Crash}
use Rattle.plan.specs.declared.Scope.{Scope}

-- a take, from process q at process p; and an action of process p that takes no message and names process q
abbrev pub taking : ProcessId → ProcessId → Scope
taking q p = record { actor = p; partner = q; takes = true }

abbrev pub facing : ProcessId → ProcessId → Scope
facing p q = record { actor = p; partner = q; takes = false }

-- the process that acts; the other one that the action names, or the same where it names one; and whether it takes a message
-- off the channel from the second to the first. Document 01: "the unit that would act .. (taking at p or answering from p: p)"
unfoldable pub scope_of : Action → Scope
scope_of (Report p v) = facing p p
scope_of (Receive q p) = taking q p
scope_of (Respond p q) = facing p q
scope_of (Crash p) = facing p p
