-- The worked examples read as they are to, by computation.
use mathlib.Core.Path.{◌≡◌, refl}
use mathlib.Core.List.{[], ◌∷◌, map, flat_map}
use Rattle.view.specs.Logic.{pick, all_up_to, each_up_to, sum_up_to, at, put, one}
use Rattle.view.specs.View.{has, within, with, minus, switched, everyone, first_from, least_of, counted_at, count_of, joined, first_members}
use Rattle.channel.specs.Channel.{empty_channel, waiting, pushed, popped}
use Rattle.system.specs.Process.{entry_at, with_entry, as_crashed, pending_at, with_pending, with_variables, with_history}
use Rattle.system.specs.System.{no_process, process_at, with_process, channel_number, channel_at, with_channel, trust_at, with_trust, trusting, sent, sent_if_named, broadcasted, takes_if_named, room_for}
use Rattle.system.specs.Fresh.{fresh_variables, fresh_process, fresh_system, fresh_of}
use Rattle.sound.specs.Sound.{every, sound_proposal, sound_message, sound_pending, sound_channel, sound_history, sound_variables, sound_process, sound_process_at, sound_channel_at, sound_channels_from, sound_processes, sound_channels, sound_system}
use Rattle.plan.specs.Plan.{changed, new_view_plan, report_plan, committing_plan, message_plan, receive_plan, respond_plan}
use Rattle.plan.specs.Scope.{scope_of}
use Rattle.plan.specs.Cut.{reach_of, cut_by}
use Rattle.step.specs.Step.{plan_of, taken_off, departed, suspected_if_named, doubted, changed_at, emptied_from, crashed_at, crashed_if, effected, carried_out, permitted, attempted, stepped}
use Rattle.events.specs.Counts.{waiting_towards, waiting_in, vanishes_at, vanished, lost_at, is_commit, plan_tally, tally_if, step_tally, done_tally, still_waiting}
use Rattle.tallies.specs.Tally.{no_tally, plus, capped}
use Rattle.tallies.specs.Share.{euclid, gcd, in_lowest_terms}
use Rattle.print.specs.Text.{bytes, digits, decimal}
use Rattle.sheet.specs.Lines.{in_first, with_byte, lines_of}
use Rattle.sheet.specs.Grammar.{piece, passed, ended, followed, readings, some, begins, greatest, column, first_reading, read}
use Rattle.sheet.specs.Parse.{opened, parsed}
use Rattle.run.specs.Output.{answered, line_done, tallied_then, tallied_from, tallied_by, lines_tally, sheet_tally}
use Rattle.class.specs.Names.{names_in, first_names}
use Rattle.class.specs.Class.{share_text, counts_text, finding_text, name_line, sheet_finding, finding_of, adds_of, all_line, each_line, in_all, class_output}
use Rattle.print.specs.Examples.{printed_text, expected_text}
use Rattle.class.specs.Examples.{k1_named, named_stop, cut_named, unread_named, bad_first_named, named_empty, long_named, class_printings}

pub class_as_expected : map printed_text class_printings ≡ map expected_text class_printings
unfolding pick all_up_to each_up_to sum_up_to at put
    has within with minus switched everyone first_from least_of counted_at count_of joined first_members
    empty_channel waiting pushed popped
    entry_at with_entry as_crashed pending_at with_pending with_variables with_history
    no_process process_at with_process channel_number channel_at with_channel trust_at with_trust trusting sent sent_if_named broadcasted takes_if_named room_for
    fresh_variables fresh_process fresh_system fresh_of
    every sound_proposal sound_message sound_pending sound_channel sound_history sound_variables sound_process sound_process_at sound_channel_at sound_channels_from sound_processes sound_channels sound_system
    changed new_view_plan report_plan committing_plan message_plan receive_plan respond_plan
    scope_of
    reach_of cut_by
    plan_of taken_off departed suspected_if_named doubted changed_at emptied_from crashed_at crashed_if effected carried_out permitted attempted stepped
    waiting_towards waiting_in one vanishes_at vanished lost_at is_commit plan_tally tally_if step_tally done_tally still_waiting
    no_tally plus capped
    euclid gcd in_lowest_terms
    bytes digits decimal
    in_first with_byte lines_of
    piece passed ended followed readings some begins greatest column first_reading read
    opened parsed
    answered line_done tallied_then tallied_from tallied_by lines_tally sheet_tally
    share_text counts_text finding_text name_line sheet_finding finding_of adds_of all_line each_line in_all class_output
    expected_text k1_named named_stop cut_named unread_named bad_first_named named_empty long_named
    flat_map
class_as_expected = refl

-- an empty name is one, a line feed at the very end begins none, and the last name may lack its own
pub names_as_expected : names_in (bytes "a\n\nb") ≡ bytes "a" ∷ [] ∷ bytes "b" ∷ []
unfolding bytes first_names lines_of with_byte in_first pick
names_as_expected = refl

pub ended_as_expected : names_in (bytes "a\n\n") ≡ bytes "a" ∷ [] ∷ []
unfolding bytes first_names lines_of with_byte in_first pick
ended_as_expected = refl
