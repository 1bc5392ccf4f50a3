-- `Machine::fresh`: the image holds the fresh system, which is sound.
use Rattle.step.proofs.Beginning.{fresh_valid}
use Rattle.fresh.proofs.Blank.{fresh_in}
use Rattle.run.proofs.lines.Machine.fresh.Goals as goal

pub invariant_of-result : goal.invariant_of-result
invariant_of-result c = record { sound = rw (fresh_in _ _ _ c.blank_image-image.ensures.long c.put_fresh.ensures.system) (fresh_valid _ c.requires).sound }

pub returns : goal.returns
returns c = fresh_in _ _ _ c.blank_image-image.ensures.long c.put_fresh.ensures.system
