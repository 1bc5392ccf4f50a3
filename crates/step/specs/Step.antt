-- One step of any kind on any system.
use Rattle.std.specs.Prelude.{ℕ, Bool, true, ◌&&◌, not, List, Result, Ok, Err, eqb}
use Rattle.view.specs.Logic.{pick, unless, each_up_to, is_one_of}
use Rattle.view.specs.View.{has}
use Rattle.view.specs.declared.ProcessId.{ProcessId}
use Rattle.channel.specs.Channel.{empty_channel, front, popped}
use Rattle.system.specs.declared.System.{System}
use Rattle.system.specs.declared.refusal.Refusal.{Refusal}
use Rattle.system.specs.declared.refusal.Refusal.TheVariants.{Stranger, Crashed}
use Rattle.system.specs.Refusal.{number}
use Rattle.system.specs.Outcome.{Outcome, done, refused}
use Rattle.system.specs.Process.{as_crashed, pending_at, with_variables}
use Rattle.system.specs.System.{process_at, variables_at, with_process, channel_at, with_channel, trust_at, with_trust, trusting, broadcasted, room_for}
use Rattle.sound.specs.Sound.{sound_system}
use Rattle.plan.specs.declared.Change.{Change}
use Rattle.plan.specs.declared.Scope.{Scope}
use Rattle.plan.specs.declared.Action.{Action}
use Rattle.plan.specs.declared.Step.{Step}
use Rattle.plan.specs.Plan.{changed, plan_from, Planned}
use Rattle.plan.specs.Scope.{scope_of}
use Rattle.plan.specs.Cut.{cut_by}

-- what the acting process plans, where it is not cut
unfoldable pub plan_of : System → Action → Planned
plan_of s o =
    let p = (scope_of o).actor.0 in
    let q = (scope_of o).partner.0 in
    plan_from s.n o (variables_at s p) (trust_at s p) (front (channel_at s q p)) (pending_at (process_at s p) q)

-- "The oldest message on the line from q to p comes off.", where the step takes one
unfoldable pub taken_off : System → Scope → System
taken_off s c = pick c.takes (with_channel s c.partner.0 c.actor.0 (popped (channel_at s c.partner.0 c.actor.0))) s

-- "Every line towards p is emptied; lines from p keep their messages."
unfoldable pub emptied_from : ℕ → ℕ → System → System
emptied_from p q s = with_channel s q p empty_channel

-- "p is stopped for good."
unfoldable pub crashed_at : System → ℕ → System
crashed_at s p =
    each_up_to 8 (emptied_from p) (with_process s p (with_variables (process_at s p) (as_crashed (variables_at s p))))

unfoldable pub crashed_if : Bool → System → ℕ → System
crashed_if stops s p = pick stops (crashed_at s p) s

-- Process q leaves the view of process p, where it is there. S-5, of the mark (p, q): "A suspicion begins when q leaves p's local view";
-- "a beginning suspicion sets it by q's view at that moment".
unfoldable pub departed : System → ℕ → ℕ → List ℕ → List ℕ
departed s p q l = pick (has (variables_at s p).view q) (trusting l p q (not (has (variables_at s q).view p))) l

-- Process p, whose view is still the old one, is told a view without process q, where q is named. S-5, of the mark (q, p): "each new view
-- of q without p turns it on".
unfoldable pub suspected_if_named : System → ℕ → ℕ → ℕ → List ℕ → List ℕ
suspected_if_named s p suspects q l = pick (has suspects q) (trusting (departed s p q l) q p true) l

-- so for every process of a set
unfoldable pub doubted : System → ℕ → ℕ → System
doubted s p suspects = with_trust s (each_up_to 8 (suspected_if_named s p suspects) s.trust)

unfoldable pub changed_at : System → ℕ → Change → System
changed_at s p c = with_process s p (changed (process_at s p) c)

-- process p doubts whom its plan says, changes as it says, and its message goes out
abbrev pub placed : System → ℕ → Planned → System
placed t p a = broadcasted (changed_at (doubted t p a.suspects) p a.change) p a.addressees a.message

-- and it stops or not
unfoldable pub effected : System → ℕ → Planned → System
effected t p a = crashed_if a.stops (placed t p a) p

-- The plan of process p is carried out in t; a refusal returns s, the system handed over. Refusal 7: "a message of this step goes
-- to a unit that has not stopped, over a line that already holds 8".
unfoldable pub carried_out : System → System → ℕ → Planned → Outcome
carried_out s t p a =
    unless (eqb a.refusal 0) (refused a.refusal s)
    (unless (room_for t p a.addressees) (refused 7 s)
    (done (effected t p a)))

-- Refusal 2, "a unit number in the step is not 1 to n"; refusal 3, "the unit that would act has stopped": process p acts, and the action
-- names process q too
abbrev pub guarded : System → ProcessId → ProcessId → Result (Unit {0}) Refusal
guarded s p q = unless (is_one_of s.n p.0 && is_one_of s.n q.0) (Err Stranger) (pick (variables_at s p.0).crashed (Err Crashed) (Ok tt))

abbrev pub if_allowed : System → Result (Unit {0}) Refusal → Outcome → Outcome
if_allowed s (Ok x) o = o
if_allowed s (Err r) o = refused (number r) s

-- otherwise the plan is carried out
unfoldable pub permitted : System → Scope → Planned → Outcome
permitted s c a = if_allowed s (guarded s c.actor c.partner) (carried_out s (taken_off s c) c.actor.0 a)

-- the step, on a system taken to be sound
unfoldable pub attempted : System → Step → Outcome
attempted s o = permitted s (scope_of o.action) (cut_by o.cut (plan_of s o.action))

-- the step. Refusal 1: "the table is not sound"
unfoldable pub stepped : System → Step → Outcome
stepped s o = unless (sound_system s) (refused 1 s) (attempted s o)
