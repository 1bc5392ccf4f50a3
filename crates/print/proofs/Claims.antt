-- The worked examples read as they are to, by computation.
use mathlib.Core.Path.{◌≡◌, refl}
use mathlib.Core.List.{map}
use Rattle.view.specs.Logic.{pick, at, put}
use Rattle.view.specs.View.{has, everyone}
use Rattle.system.specs.Process.{entry_at, with_entry}
use Rattle.system.specs.System.{no_process, process_at, with_process}
use Rattle.system.specs.Fresh.{fresh_variables, fresh_process, fresh_system}
use Rattle.print.specs.Text.{bytes, text_up_to, digits, decimal, member_text, view_text}
use Rattle.print.specs.Print.{numbered_line, column_line, entry_text, entry_text_at, history_text, unit_line, unit_of, unit_lines}
use Rattle.print.specs.Examples.{two_units, one_stopped, printings, printed_text, expected_text}

pub printed_as_expected : map printed_text printings ≡ map expected_text printings
unfolding pick at put has everyone entry_at with_entry no_process process_at with_process fresh_variables fresh_process fresh_system bytes text_up_to digits decimal member_text view_text numbered_line column_line entry_text entry_text_at history_text unit_line unit_of unit_lines two_units one_stopped expected_text
printed_as_expected = refl
