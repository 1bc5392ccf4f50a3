-- Each name that is taken leaves fewer.
use Rattle.tally.proofs.tally_class.Given as goal

abbrev pub decreases-loop-len : goal.decreases-loop-len
decreases-loop-len g l = l.names.left
