-- `print::Page::text`: the bytes before this one are typed.
use mathlib.Core.Path.{◌≡◌}
use lib.ListN.{take}
use Rattle.print.specs.Page.{typed_on}
use Rattle.print.proofs.Page.text.Given as goal

abbrev pub invariant-loop-b : goal.invariant-loop-b
invariant-loop-b l = l.self ≡ typed_on l.fn.self (take l.b-index l.text)
