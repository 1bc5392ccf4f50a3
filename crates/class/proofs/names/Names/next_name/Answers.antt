-- `class::names::Names::next_name`: the first of the names that are left, if there is one.
use Rattle.std.proofs.Common.{rules}
use Rattle.class.proofs.Reading.{no_more, some_left, none_follows, name_follows}
use Rattle.class.proofs.names.Names.next_name.Goals as goal

pub returns-then-self-eq0-clause-name : goal.returns-then-self-eq0-clause-name
returns-then-self-eq0-clause-name g c = no_more _ _ c.if-self-eq0.true

pub returns-then-not-branch-clause-name : goal.returns-then-not-branch-clause-name
returns-then-not-branch-clause-name g c = none_follows _ _ _ _ (search rules) (search rules) (search rules)

pub returns-clause-name : goal.returns-clause-name
returns-clause-name g c =
    let some = c.in_ok-fill.ensures.some (search rules) in
    name_follows _ _ _ _ _ _ (search rules) (search rules) c.in_ok-fill.ensures.kept (some_left _ _ _ _ some c.in_ok-fill.ensures.within) c.in_ok-len.ensures.name
