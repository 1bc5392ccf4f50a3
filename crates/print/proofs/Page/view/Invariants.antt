-- `print::Page::view`: the members before process k are typed.
use Prim.Native.Nat.{◌-◌}
use mathlib.Core.Path.{◌≡◌}
use Rattle.print.specs.Text.{text_up_to, member_text}
use Rattle.print.specs.Page.{typed_on}
use Rattle.print.proofs.Page.view.Given as goal

abbrev pub invariant-loop-k : goal.invariant-loop-k
invariant-loop-k l = l.self ≡ typed_on l.fn.self (text_up_to (l.k - 1) (member_text l.view))
