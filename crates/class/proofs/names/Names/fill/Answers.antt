-- `class::names::Names::fill`: the chunk has what the reader no longer has.
use Rattle.std.proofs.Common.{rules}
use Rattle.class.proofs.Reading.{nothing_left, chunk_read, none_read}
use Rattle.class.proofs.names.Names.fill.Goals as goal

pub returns-then-self-2-clause-none : goal.returns-then-self-2-clause-none
returns-then-self-2-clause-none g c = λ e. nothing_left _ _ _ _ _ c.if-self.false c.if-self-2.true

pub returns-clause-kept : goal.returns-clause-kept
returns-clause-kept g c = chunk_read _ _ _ _ _ _ _ _ c.if-self.false c.if-self-2.false (search rules) (search rules)

pub returns-clause-none : goal.returns-clause-none
returns-clause-none g c = none_read _ _ _
