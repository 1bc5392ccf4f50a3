-- `print::Page::units`: the lines before that of process p are typed, and then that line.
use Prim.Native.Nat.{min, ◌-◌}
use mathlib.Core.Path.{◌≡◌}
use native.Mathlib.Omega.{arith}
use Rattle.image.specs.Image.{system_in}
use Rattle.print.specs.Print.{unit_of, unit_lines}
use Rattle.print.proofs.Typing.{first_text, next_text}
use Rattle.print.proofs.Page.units.Goals as goal

pub loop-p-init : goal.loop-p-init
loop-p-init c = (omega arith, first_text _ _ _ (omega arith))

pub loop-p-preserved : goal.loop-p-preserved
unfolding unit_of
loop-p-preserved c = (omega arith, next_text _ _ _ c.loop-p.p _ (unit_of _) (omega arith) (omega arith) c.loop-p.invariant.1 c.unit.ensures)

-- no line, or the last one was typed before
pub returns : goal.returns
unfolding unit_lines
returns c = let end : c.loop-p.p - 1 ≡ min 8 (system_in c.args.image.now).n = omega arith in rw end at c.loop-p.invariant.1

pub returns-2 : goal.returns-2
unfolding unit_lines unit_of
returns-2 c = next_text _ _ _ c.loop-p.p _ (unit_of _) (omega arith) (omega arith) c.loop-p.invariant.1 c.unit.ensures
