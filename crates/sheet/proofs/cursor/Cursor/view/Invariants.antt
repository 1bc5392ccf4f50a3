-- `Cursor::view`: before a digit has its turn, what is left of the view are the digits that rise from the one before it on.
use Rattle.std.proofs.Common.{◌≡◌, ◌-◌, drop}
use Rattle.sheet.specs.Cursor.{view_at, risen, some_view}
use Rattle.sheet.proofs.cursor.Cursor.view.Given as goal

abbrev pub invariant-loop-digit : goal.invariant-loop-digit
invariant-loop-digit l =
    (l.self.line ≡ l.fn.self.line)
    × (view_at l.fn.self.line.now l.fn.self.at ≡ some_view (risen l.self.at (l.digit - 1) l.view (drop l.self.at l.self.line.now)))
