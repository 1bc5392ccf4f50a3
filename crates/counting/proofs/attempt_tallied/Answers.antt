-- `counting::attempt_tallied`: a step that is done counts what was counted before, and one that is refused nothing.
use Rattle.counting.proofs.Counting.{tallied}
use Rattle.counting.proofs.attempt_tallied.Goals as goal

pub returns-clause-step : goal.returns-clause-step
returns-clause-step c = rw c.and.ensures (tallied _ _ _ _ _ c.attempt.ensures c.counts_if_done-counts.ensures).0

pub returns-clause-tally : goal.returns-clause-tally
returns-clause-tally c = rw c.and.ensures (tallied _ _ _ _ _ c.attempt.ensures c.counts_if_done-counts.ensures).1
