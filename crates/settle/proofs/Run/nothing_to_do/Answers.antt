-- `Run::nothing_to_do`: a round of at most one step, on a copy.
use Rattle.std.proofs.Common.{arith}
use Rattle.settle.proofs.Laws.{sound_long, round_tells}
use Rattle.settle.proofs.Run.nothing_to_do.Goals as goal

pub copy_from_slice-requires : goal.copy_from_slice-requires
copy_from_slice-requires c = omega (arith, sound_long _ c.args.self.now.sound, c.blank_image-copied.ensures.long)

pub new-run-requires : goal.new-run-requires
new-run-requires c = rw c.copy_from_slice.ensures.after c.args.self.now.sound

pub returns : goal.returns
returns c = rw c.copy_from_slice.ensures.after at (round_tells _ _ _ _ c.new-run.ensures (omega arith) c.round.ensures)
