-- `print::Page::units`: the lines before that of process p are typed.
use Prim.Native.Nat.{◌+◌, ◌-◌, ◌≤◌}
use mathlib.Core.Path.{◌≡◌}
use Rattle.image.specs.Image.{system_in}
use Rattle.print.specs.Text.{text_up_to}
use Rattle.print.specs.Page.{typed_on}
use Rattle.print.specs.Print.{unit_of}
use Rattle.print.proofs.Page.units.Given as goal

abbrev pub invariant-loop-p : goal.invariant-loop-p
invariant-loop-p l = (l.p ≤ l.n + 1) × (l.self ≡ typed_on l.fn.self (text_up_to (l.p - 1) (unit_of (system_in l.image))))
