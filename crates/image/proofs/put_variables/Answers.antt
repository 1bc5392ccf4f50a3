-- `image::put_variables`: its first six bytes.
use Rattle.image.proofs.Changes.{variables_put}
use Rattle.image.proofs.put_variables.Goals as goal

pub returns : goal.returns
returns c =
    variables_put _ _ _ _ _ c.process_place-at.ensures.place c.process_place-at.ensures.within (rw c.variables_bytes.ensures at c.write.ensures)
