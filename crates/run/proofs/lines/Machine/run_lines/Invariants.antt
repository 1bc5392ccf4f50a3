-- `Machine::run_lines`: what is on the page, then the rest of the lines at the system so far, is the whole.
use Rattle.std.proofs.Common.{◌≡◌, ◌+◌, ◌≤◌, true, length}
use Rattle.std.specs.Iterator.Adapters.{zip_first, zip_second}
use Rattle.tallies.specs.Tally.{no_tally}
use Rattle.image.specs.Image.{system_in}
use Rattle.print.specs.Page.{typed_on}
use Rattle.sheet.specs.Reader.{lines_left}
use Rattle.run.specs.Output.{printed_from, tallied_from}
use Rattle.run.proofs.lines.Machine.run_lines.Given as goal

abbrev pub invariant-loop-number : goal.invariant-loop-number
invariant-loop-number l =
    let number = (zip_first l.number-iterator).start in
    let left = lines_left (zip_second l.number-iterator) in
    record {
      can_next : (goal.iterator-loop-number).can_next l.number-iterator;
      ends : (goal.iterator-loop-number).is_finite l.number-iterator;
      few : number + length left ≤ 60003;
      printed : typed_on l.initial.page (printed_from 2 (system_in l.initial.self.image) (lines_left l.fn.lines)) ≡ typed_on l.page (printed_from number (system_in l.self.image) left);
      tallied : l.counting ≡ true → tallied_from 2 no_tally (system_in l.initial.self.image) (lines_left l.fn.lines) ≡ tallied_from number l.tally (system_in l.self.image) left;
    }
