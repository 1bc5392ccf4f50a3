-- The bound is met by one process alone: all of it is computed.
use mathlib.Core.Path.{refl}
use Rattle.view.specs.Logic.{pick, all_up_to, each_up_to, at, put}
use Rattle.view.specs.View.{has, within, with, minus, switched, everyone, first_from, least_of}
use Rattle.channel.specs.Channel.{empty_channel, waiting, pushed, popped}
use Rattle.system.specs.Process.{entry_at, with_entry, pending_at}
use Rattle.system.specs.System.{no_process, process_at, with_process, channel_number, channel_at, with_channel, trust_at, with_trust, trusting, sent, sent_if_named, broadcasted, takes_if_named, room_for}
use Rattle.system.specs.Fresh.{fresh_variables, fresh_process, fresh_system, fresh_of}
use Rattle.sound.specs.Sound.{every, sound_proposal, sound_message, sound_pending, sound_channel, sound_history, sound_variables, sound_process, sound_process_at, sound_channel_at, sound_channels_from, sound_processes, sound_channels, sound_system}
use Rattle.plan.specs.Plan.{changed, new_view_plan, report_plan, committing_plan, message_plan, receive_plan, respond_plan}
use Rattle.plan.specs.Scope.{scope_of}
use Rattle.plan.specs.Cut.{cut_by}
use Rattle.step.specs.Step.{plan_of, taken_off, departed, suspected_if_named, doubted, changed_at, crashed_if, effected, carried_out, permitted, attempted, stepped}
use Rattle.events.specs.Event.{happened, moved, moves_of, moves_then, moves_in, grown}
use Rattle.settling.specs.Steps.{take_or_answer}
use Rattle.bound.specs.Bound.{takes_then, takes_and_answers, proposed_alone, Attained}

pub attained : Attained
unfolding pick all_up_to each_up_to at put has within with minus switched everyone first_from least_of empty_channel waiting pushed popped entry_at with_entry pending_at no_process process_at with_process channel_number channel_at with_channel trust_at with_trust trusting sent sent_if_named broadcasted takes_if_named room_for fresh_variables fresh_process fresh_system fresh_of every sound_proposal sound_message sound_pending sound_channel sound_history sound_variables sound_process sound_process_at sound_channel_at sound_channels_from sound_processes sound_channels sound_system changed new_view_plan report_plan committing_plan message_plan receive_plan respond_plan scope_of plan_of taken_off departed suspected_if_named doubted changed_at crashed_if effected carried_out permitted attempted stepped cut_by happened moved moves_of moves_then moves_in grown take_or_answer takes_then takes_and_answers proposed_alone
attained = refl
