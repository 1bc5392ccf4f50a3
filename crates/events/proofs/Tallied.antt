-- The tallies of short lists of events, computed.
use mathlib.Core.Path.{refl}
use Rattle.view.specs.Logic.{pick, all_up_to, each_up_to, sum_up_to, at, put, one}
use Rattle.view.specs.View.{has, within, with, minus, switched, everyone, first_from, least_of, counted_at, count_of, joined, first_members}
use Rattle.tallies.specs.Tally.{no_tally, plus}
use Rattle.channel.specs.Channel.{empty_channel, waiting, pushed, popped}
use Rattle.system.specs.Process.{entry_at, with_entry, as_crashed, pending_at, with_variables}
use Rattle.system.specs.System.{no_process, process_at, with_process, channel_number, channel_at, with_channel, trust_at, with_trust, trusting, sent, sent_if_named, broadcasted, takes_if_named, room_for}
use Rattle.system.specs.Fresh.{fresh_variables, fresh_process, fresh_system, fresh_of}
use Rattle.sound.specs.Sound.{every, sound_proposal, sound_message, sound_pending, sound_channel, sound_history, sound_variables, sound_process, sound_process_at, sound_channel_at, sound_channels_from, sound_processes, sound_channels, sound_system}
use Rattle.plan.specs.Plan.{changed, new_view_plan, report_plan, committing_plan, message_plan, receive_plan, respond_plan}
use Rattle.plan.specs.Scope.{scope_of}
use Rattle.plan.specs.Cut.{reach_of, cut_by}
use Rattle.step.specs.Step.{plan_of, taken_off, emptied_from, crashed_at, crashed_if, departed, suspected_if_named, doubted, changed_at, effected, carried_out, permitted, attempted, stepped}
use Rattle.events.specs.Event.{happened, ran, moved, moves_of, moves_then, moves_in, grown}
use Rattle.events.specs.Counts.{waiting_towards, waiting_in, vanishes_at, vanished, lost_at, is_commit, plan_tally, tally_if, step_tally, done_tally, still_waiting, move_tally, tally_then, events_tally, tally_of, fresh_tally}
use Rattle.events.specs.Tallied.{short_tallies, ShortlyTallied}

pub tallied : ShortlyTallied
unfolding pick all_up_to each_up_to sum_up_to at put has within with minus switched everyone first_from least_of counted_at count_of joined first_members
    no_tally plus empty_channel waiting pushed popped entry_at with_entry as_crashed pending_at with_variables
    no_process process_at with_process channel_number channel_at with_channel trust_at with_trust trusting sent sent_if_named broadcasted takes_if_named room_for
    fresh_variables fresh_process fresh_system fresh_of
    every sound_proposal sound_message sound_pending sound_channel sound_history sound_variables sound_process sound_process_at sound_channel_at sound_channels_from sound_processes sound_channels sound_system
    changed new_view_plan report_plan committing_plan message_plan receive_plan respond_plan scope_of reach_of cut_by
    plan_of taken_off emptied_from crashed_at crashed_if departed suspected_if_named doubted changed_at effected carried_out permitted attempted stepped happened ran moved moves_of moves_then moves_in grown
    waiting_towards waiting_in one vanishes_at vanished lost_at is_commit plan_tally tally_if step_tally done_tally still_waiting move_tally tally_then events_tally tally_of fresh_tally short_tallies
tallied = refl
