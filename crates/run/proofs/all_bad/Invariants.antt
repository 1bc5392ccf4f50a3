-- `run::all_bad`: what is on the page, then the rest of the lines, is the whole.
use Rattle.std.proofs.Common.{◌≡◌, ◌+◌, ◌≤◌, length}
use Rattle.std.specs.Iterator.Adapters.{zip_first, zip_second}
use Rattle.print.specs.Page.{typed_on}
use Rattle.sheet.specs.Reader.{lines_left}
use Rattle.run.specs.Output.{bad_from}
use Rattle.run.proofs.all_bad.Given as goal

abbrev pub invariant-loop-number : goal.invariant-loop-number
invariant-loop-number l =
    let number = (zip_first l.number-iterator).start in
    let left = lines_left (zip_second l.number-iterator) in
    record {
      can_next : (goal.iterator-loop-number).can_next l.number-iterator;
      ends : (goal.iterator-loop-number).is_finite l.number-iterator;
      few : number + length left ≤ 60003;
      printed : typed_on l.initial.page (bad_from 2 (lines_left l.fn.lines)) ≡ typed_on l.page (bad_from number left);
    }
