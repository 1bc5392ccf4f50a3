-- `fresh::put_blank`: zeros, and the first byte.
use Rattle.fresh.proofs.Blank.{blank_held}
use Rattle.fresh.proofs.put_blank.Goals as goal

pub returns : goal.returns
returns c = blank_held _ _ (rw c.requires at (c.fill.ensures.after (λ y e. e)))
