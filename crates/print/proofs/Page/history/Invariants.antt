-- `print::Page::history`: the entries before index i are typed.
use Prim.Native.Nat.{◌-◌}
use mathlib.Core.Path.{◌≡◌}
use Rattle.system.specs.System.{process_at}
use Rattle.image.specs.Image.{system_in}
use Rattle.print.specs.Text.{text_up_to}
use Rattle.print.specs.Page.{typed_on}
use Rattle.print.specs.Print.{entry_text_at}
use Rattle.print.proofs.Page.history.Given as goal

abbrev pub invariant-loop-i : goal.invariant-loop-i
invariant-loop-i l = l.self ≡ typed_on l.fn.self (text_up_to (l.i - 1) (entry_text_at (process_at (system_in l.image) l.p.0).history))
