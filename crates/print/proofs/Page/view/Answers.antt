-- `print::Page::view`: the members before process k are typed, and then that process.
use mathlib.Core.Path.{◌≡◌}
use native.Mathlib.Omega.{arith}
use Rattle.print.specs.Text.{view_text}
use Rattle.print.proofs.Typing.{first_text, next_text}
use Rattle.print.proofs.Page.view.Goals as goal

pub loop-k-init : goal.loop-k-init
loop-k-init c = first_text _ _ _ (omega arith)

pub loop-k-preserved : goal.loop-k-preserved
loop-k-preserved c = next_text _ _ _ c.loop-k.k _ _ (omega arith) (omega arith) c.loop-k.invariant c.member.ensures

pub returns : goal.returns
unfolding view_text
returns c = let end : c.loop-k.k ≡ 9 = omega arith in rw end at c.loop-k.invariant
