-- The examples, computed; and the theorem, applied to them.
use mathlib.Core.Path.{◌≡◌, refl, ap}
use mathlib.Core.Bool.{true}
use mathlib.Core.List.{[], ◌∷◌}
use native.Mathlib.Omega.{arith}
use Rattle.view.specs.Logic.{pick, all_up_to, each_up_to, at, put}
use Rattle.view.specs.View.{has, within, with, minus, switched, everyone, first_from, least_of, counted_at, count_of, joined, first_members}
use Rattle.channel.specs.Channel.{empty_channel, waiting, pushed, popped}
use Rattle.system.specs.declared.System.{System}
use Rattle.system.specs.Process.{entry_at, with_entry, as_crashed, pending_at, with_variables}
use Rattle.system.specs.System.{no_process, process_at, with_process, channel_number, channel_at, with_channel, trust_at, with_trust, trusting, sent, sent_if_named, broadcasted, takes_if_named, room_for, entry_in}
use Rattle.system.specs.Fresh.{fresh_variables, fresh_process, fresh_system, fresh_of}
use Rattle.sound.specs.Sound.{every, sound_proposal, sound_message, sound_pending, sound_channel, sound_history, sound_variables, sound_process, sound_process_at, sound_channel_at, sound_channels_from, sound_processes, sound_channels, sound_system}
use Rattle.plan.specs.Plan.{changed, new_view_plan, report_plan, committing_plan, message_plan, receive_plan, respond_plan}
use Rattle.plan.specs.Scope.{scope_of}
use Rattle.plan.specs.declared.Action.TheVariants.{Report}
use Rattle.plan.specs.Cut.{whole, reach_of, cut_by}
use Rattle.step.specs.Step.{plan_of, taken_off, emptied_from, crashed_at, crashed_if, departed, suspected_if_named, doubted, changed_at, effected, carried_out, permitted, attempted, stepped}
use Rattle.step.specs.Rest.{idle_from, matches, answerable, resting_from, resting_at, at_rest}
use Rattle.events.specs.Event.{happened, ran}
use Rattle.settling.specs.Settle.{passing, tried, move_of, tried_with, tried_at, half_done, round_done, unless_idle, rounds_done, refused_at, all_refused_at, none_done, nothing_to_do, ending_of, ended_with, settled, settling_budget}
use Rattle.agreement.specs.Demand.{start}
use Rattle.quiet.specs.Quiet.{last_up_to, last_non_empty, local_if_named, is_common, Final}
use Rattle.quiet.specs.Examples.{none_waits_at, none_waits, last_view, Seen, seen, SettledSeen, settled_seen, example66, Example66, one_cut, OneCut, NoReport, unanswered, MessageWaits, Unanswered, apart_from1, OtherView, OtherProcess, stopped_before, Stopped, told_again, ToldAgain, accepted2, back_again, trusted_by_hand, Needed}
use Rattle.quiet.proofs.Theorem.{quiet_is_agreed}
use Rattle.quiet.proofs.AfterSettling.{settled_is_agreed}

-- what the examples are computed with: one that unfolds this unfolds all that its line names
definitions : Unit {0}
unfolding pick all_up_to each_up_to at put has within with minus switched everyone first_from least_of counted_at count_of joined first_members
    empty_channel waiting pushed popped entry_at with_entry as_crashed pending_at with_variables
    no_process process_at with_process channel_number channel_at with_channel trust_at with_trust trusting sent sent_if_named broadcasted takes_if_named room_for
    fresh_variables fresh_process fresh_system fresh_of
    every sound_proposal sound_message sound_pending sound_channel sound_history sound_variables sound_process sound_process_at sound_channel_at sound_channels_from sound_processes sound_channels sound_system
    changed new_view_plan report_plan committing_plan message_plan receive_plan respond_plan scope_of reach_of cut_by
    plan_of taken_off emptied_from crashed_at crashed_if departed suspected_if_named doubted changed_at effected carried_out permitted attempted stepped happened ran
    idle_from matches answerable resting_from resting_at at_rest entry_in last_up_to last_non_empty local_if_named is_common
    passing tried move_of tried_with tried_at half_done round_done unless_idle rounds_done refused_at all_refused_at none_done nothing_to_do ending_of ended_with settled
    none_waits_at none_waits last_view seen settled_seen example66 one_cut unanswered apart_from1 stopped_before told_again accepted2 back_again trusted_by_hand
definitions = tt

pub example_66 : Example66
unfolding definitions
example_66 = refl

pub one_cut_lem : OneCut
unfolding definitions
one_cut_lem = refl

pub no_report : NoReport
unfolding definitions
no_report = refl

pub message_waits : MessageWaits
unfolding definitions
message_waits = refl

pub unanswered_differs : Unanswered
unfolding definitions
unanswered_differs = refl

pub other_view : OtherView
unfolding definitions
other_view = refl

pub other_process : OtherProcess
unfolding definitions
other_process = refl

pub stopped_differs : Stopped
unfolding definitions
stopped_differs = refl

pub told_again_differs : ToldAgain
unfolding definitions
told_again_differs = refl

-- ---- S-5 is needed
hand_refused : (stepped (ran (start 2) accepted2) (whole (Report (record { 0 = 2 }) 3))).refusal ≡ 13
unfolding definitions
hand_refused = refl

hand_sound : sound_system (trusted_by_hand (ran (start 2) accepted2)) ≡ true
unfolding definitions
hand_sound = refl

hand_ends : seen (ran (trusted_by_hand (ran (start 2) accepted2)) back_again) 3 (1 ∷ 2 ∷ [])
    ≡ record { nobody_waits = true; rests = true; common = true; last = 1 ∷ 2 ∷ []; views = 3 ∷ 2 ∷ [] }
unfolding definitions
hand_ends = refl

both_named : (has 3 1 ≡ true) × (has 3 2 ≡ true)
unfolding has
both_named = (refl, refl)

not_final : (s : System) (x : Seen) → seen s 3 (1 ∷ 2 ∷ []) ≡ x → x.last ≡ 1 ∷ 2 ∷ [] → Final s 3 → ⊥
unfolding seen
not_final s x e l final = grind (arith, both_named)

pub needed : Needed
needed = record { refused = hand_refused; sound = hand_sound; ends = hand_ends; refuted = not_final _ _ hand_ends refl }

-- ---- the theorem, applied
pub example_66_final : Final (settled settling_budget (ran (start 4) example66)).system 15
unfolding settled_seen seen
example_66_final = settled_is_agreed settling_budget 4 example66 15 (ap (λ (x : SettledSeen). x.ending) example_66) (ap (λ (x : SettledSeen). x.then.common) example_66)

pub one_cut_final : Final (ran (start 3) one_cut) 6
unfolding seen
one_cut_final = quiet_is_agreed 3 one_cut 6 (ap (λ (x : Seen). x.rests) one_cut_lem) (ap (λ (x : Seen). x.common) one_cut_lem)

pub no_report_final : Final (start 2) 3
unfolding seen ran
no_report_final = quiet_is_agreed 2 [] 3 (ap (λ (x : Seen). x.rests) no_report) (ap (λ (x : Seen). x.common) no_report)
