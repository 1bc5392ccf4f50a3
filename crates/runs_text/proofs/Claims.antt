-- The worked inputs, computed.
use mathlib.Core.Path.{◌≡◌, refl}
use mathlib.Core.List.{map}
use Rattle.view.specs.Logic.{pick, all_up_to, at, put}
use Rattle.view.specs.View.{everyone}
use Rattle.system.specs.Process.{entry_at, with_entry}
use Rattle.system.specs.System.{no_process, process_at, entry_in}
use Rattle.system.specs.Fresh.{fresh_variables, fresh_process, fresh_system}
use Rattle.print.specs.Text.{bytes, digits, decimal}
use Rattle.orders.specs.Orders.{link_turn, old_at, all_old_at, goes_beyond, entered_among, run_counts_of, walked}
use Rattle.runs_text.specs.RunsText.{three_bytes, walk_for, walk_text, runs_output}
use Rattle.runs_text.specs.Examples.{askings, printed_for, expected_for}

pub runs_printed_as_expected : map printed_for askings ≡ map expected_for askings
unfolding pick all_up_to at put everyone entry_at with_entry no_process process_at entry_in fresh_variables fresh_process fresh_system bytes digits decimal
    link_turn old_at all_old_at goes_beyond entered_among run_counts_of walked three_bytes walk_for walk_text runs_output expected_for
runs_printed_as_expected = refl
