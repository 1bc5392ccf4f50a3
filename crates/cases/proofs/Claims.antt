-- The worked sheets, the single steps, whole and cut, and the agreement rule come out as the papers say, by computation.
use Prim.Native.Nat.{ℕ}
use mathlib.Core.Path.{◌≡◌, refl}
use mathlib.Core.Bool.{true, false}
use mathlib.Core.List.{map, flat_map}
use Rattle.view.specs.Logic.{pick, all_up_to, each_up_to, at, put, is_one_of}
use Rattle.view.specs.View.{has, within, with, minus, switched, everyone, first_from, least_of, counted_at, count_of, joined, first_members}
use Rattle.channel.specs.Channel.{empty_channel, waiting, pushed, popped}
use Rattle.system.specs.declared.Process.{Process}
use Rattle.system.specs.Process.{entry_at, with_entry, as_crashed, pending_at, with_pending, with_variables, with_history}
use Rattle.system.specs.System.{no_process, process_at, with_process, channel_number, channel_at, with_channel, trust_at, with_trust, trusting, sent, sent_if_named, broadcasted, takes_if_named, room_for}
use Rattle.system.specs.Fresh.{fresh_variables, fresh_process, fresh_system, fresh_of}
use Rattle.system.specs.Outcome.{refused}
use Rattle.sound.specs.Sound.{every, sound_proposal, sound_message, sound_pending, sound_channel, sound_history, sound_variables, sound_process, sound_process_at, sound_channel_at, sound_channels_from, sound_processes, sound_channels, sound_system}
use Rattle.plan.specs.declared.Step.{Step}
use Rattle.plan.specs.Plan.{changed, new_view_plan, report_plan, committing_plan, message_plan, receive_plan, respond_plan}
use Rattle.plan.specs.Scope.{scope_of}
use Rattle.plan.specs.Cut.{reach_of, cut_by}
use Rattle.step.specs.Step.{plan_of, taken_off, departed, suspected_if_named, doubted, changed_at, emptied_from, crashed_at, crashed_if, effected, carried_out, permitted, attempted, stepped}
use Rattle.step.specs.Rest.{idle_from, matches, answerable, resting_from, resting_at, at_rest}
use Rattle.events.specs.Event.{happened, ran, moved, moves_of, moves_then, moves_in, grown}
use Rattle.settling.specs.Settle.{passing, tried, move_of, tried_with, tried_at, half_done, round_done, unless_idle, rounds_done, refused_at, all_refused_at, none_done, nothing_to_do, ending_of, ended_with, settled}
use Rattle.agreement.specs.Accepted.{accepted_from, accepted_then, accepted_in, accepted}
use Rattle.agreement.specs.Book.{book_entry, opened_book, apart, apart_from, admits, written_in, made_in, fed, fed_all, none_refused}
use Rattle.agreement.specs.Demand.{start}
use Rattle.print.specs.Text.{bytes, text_up_to, digits, decimal, member_text, view_text}
use Rattle.print.specs.Print.{numbered_line, column_line, entry_text, entry_text_at, history_text, unit_line, unit_of, unit_lines}
use Rattle.sheet.specs.Lines.{in_first, with_byte, lines_of}
use Rattle.sheet.specs.Grammar.{piece, passed, ended, followed, readings, some, begins, greatest, column, first_reading, read}
use Rattle.sheet.specs.Parse.{meaning_first, meaning, opened, parsed}
use Rattle.run.specs.Output.{answered, bad_line, ending_text, settled_as, line_done, printed_then, printed_from, bad_from, started_by, lines_output, output}
use Rattle.cases.specs.Systems.{two, with_values, with_trust_of, with_stop, with_record, with_written, loaded, with_messages, lone}
use Rattle.cases.specs.Worked.{text_of, step_in, steps_in, steps_of, printed_by, opened_with, start_of, ran_on, queue_in, result_of, expected_result}
use Rattle.cases.specs.Sheets.{k_sheets, k1, k1_ends, k2, k3, k4, k4_full, k5_stays, k5, k6, k7, k8, k8_nine, k9, form_sheets, settle_two, no_last_lf, later_u, empty_lines, first_u9, one_lf, empty}
use Rattle.cases.specs.Points.{points, line_outcome, point_outcome, expected_outcome}
use Rattle.cases.specs.Settles.{settlings, point_settled, expected_settled, proposed_to_two, written_at_two, written_at_both, recorded_by_one, crosswise}
use Rattle.cases.specs.Cuts.{proposed_by1, told, proposed_both, last_acc, full_retry, last_index, answering, cuts, cut_stop, accepted_by_cut, accepted_is_cut}
use Rattle.cases.specs.Doubts.{viewing, last_alone, doubts}
use Rattle.cases.specs.Rule.{k9_accepted, k9_agreements, k9_book, at_two, at_four, twice_accepted, shared, trials, admitted_by, expected_answer}

-- what the claims are computed with: a claim that unfolds this one unfolds all that its line names
definitions : Unit {0}
unfolding pick all_up_to each_up_to at put has within with minus switched everyone first_from least_of counted_at count_of joined first_members
    empty_channel waiting pushed popped
    entry_at with_entry as_crashed pending_at with_pending with_variables with_history
    no_process process_at with_process channel_number channel_at with_channel trust_at with_trust trusting sent sent_if_named broadcasted takes_if_named room_for
    fresh_variables fresh_process fresh_system fresh_of
    every sound_proposal sound_message sound_pending sound_channel sound_history sound_variables sound_process sound_process_at sound_channel_at sound_channels_from sound_processes sound_channels sound_system
    changed new_view_plan report_plan committing_plan message_plan receive_plan respond_plan scope_of reach_of cut_by
    plan_of taken_off departed suspected_if_named doubted changed_at emptied_from crashed_at crashed_if effected carried_out permitted attempted stepped
    happened ran moved moves_of moves_then moves_in grown
    idle_from matches answerable resting_from resting_at at_rest
    passing tried move_of tried_with tried_at half_done round_done unless_idle rounds_done refused_at all_refused_at none_done nothing_to_do ending_of ended_with settled
    accepted_from accepted_then accepted_in accepted
    book_entry opened_book apart apart_from admits written_in made_in fed fed_all none_refused
    bytes text_up_to digits decimal member_text view_text
    numbered_line column_line entry_text entry_text_at history_text unit_line unit_of unit_lines
    in_first with_byte lines_of flat_map piece passed ended followed readings some begins greatest column first_reading read opened parsed
    answered meaning_first meaning bad_line ending_text settled_as line_done printed_then printed_from bad_from started_by lines_output output
    with_values with_trust_of with_stop with_record with_written loaded with_messages lone
    text_of step_in steps_in steps_of printed_by opened_with start_of ran_on queue_in result_of expected_result
    k1 k1_ends k2 k3 k4 k4_full k5_stays k5 k6 k7 k8 k8_nine k9 settle_two no_last_lf later_u empty_lines first_u9 one_lf empty
    line_outcome point_outcome proposed_by1 told proposed_both last_acc full_retry last_index answering cut_stop accepted_by_cut accepted_is_cut
    point_settled proposed_to_two written_at_two written_at_both recorded_by_one crosswise
    viewing last_alone k9_accepted k9_agreements k9_book at_two at_four twice_accepted shared trials admitted_by
definitions = tt

-- The cases marked K.
pub worked_sheets : map result_of k_sheets ≡ map expected_result k_sheets
unfolding definitions
worked_sheets = refl

-- Small sheets at the edges of the form.
pub worked_forms : map result_of form_sheets ≡ map expected_result form_sheets
unfolding definitions
worked_forms = refl

pub worked_points : map point_outcome points ≡ map expected_outcome points
unfolding definitions
worked_points = refl

-- Cut steps; a stop, which is never cut; and an answer, which accepts although it is.
pub worked_cuts : map point_outcome cuts ≡ map expected_outcome cuts
unfolding definitions
worked_cuts = refl

pub stop_not_cut : cut_stop ≡ refused 12 two
unfolding definitions
stop_not_cut = refl

pub cut_answer_accepts : accepted_by_cut ≡ accepted_is_cut
unfolding definitions
cut_answer_accepts = refl

-- Reports that begin suspicions, end them, or are refused with 13.
pub worked_doubts : map point_outcome doubts ≡ map expected_outcome doubts
unfolding definitions
worked_doubts = refl

-- Settling runs.
pub worked_settlings : map point_settled settlings ≡ map expected_settled settlings
unfolding definitions
worked_settlings = refl

-- K8, of every size outside 1 to 8: it "gives refusal 2 and a table of zero units"; and of every step there is: "every step on it
-- gives 1".
pub k8_every_size : (n : ℕ) → is_one_of 8 n ≡ false → fresh_of n ≡ refused 2 (fresh_system 0)
unfolding definitions
k8_every_size n e = rw e

pub k8_every_step : (o : Step) → stepped (fresh_system 0) o ≡ refused 1 (fresh_system 0)
unfolding definitions
k8_every_step o = refl

-- K1's complete final system.
pub k1_final : ran (start 2) (steps_of k1.text) ≡ k1_ends
unfolding definitions
k1_final = refl

-- The agreement rule makes and refuses what it should.
pub worked_agreements : map admitted_by trials ≡ map expected_answer trials
unfolding definitions
worked_agreements = refl

-- What is accepted in K9, told from its steps; and its three agreements, none refused, leave its entries in the book.
pub k9_accepts : accepted_in (start 2) (steps_of k9.text) ≡ k9_accepted
unfolding definitions
k9_accepts = refl

pub k9_none_refused : none_refused k9_accepted k9_book k9_agreements ≡ true
unfolding definitions
k9_none_refused = refl

pub k9_book_is : (fed_all k9_accepted k9_book k9_agreements).histories ≡ map (λ (x : Process). x.history) (ran (start 2) (steps_of k9.text)).processes
unfolding definitions
k9_book_is = refl
