-- `SheetReader::next`: the line found is the first that is left, and the reader goes on to the next.
use mathlib.Core.Path.{refl, sym}
use Rattle.sheet.proofs.Laws.{line_found}
use Rattle.sheet.proofs.reader.SheetReaderIterator.next.Goals as goal

pub returns-clause-steps : goal.returns-clause-steps
returns-clause-steps c = let cut = line_found _ _ _ (sym c.in_ok-line.ensures.line) in (cut.lines, refl, cut.next)
