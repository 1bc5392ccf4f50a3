-- `list::obey_kind`: each kind's step is done.
use mathlib.Core.Path.{◌≡◌}
use native.Mathlib.Omega.{arith}
use Rattle.view.specs.Logic.{pick}
use Rattle.list.specs.List.{order_of, obeyed}
use Rattle.list.proofs.obey_kind.Goals as goal

pub returns-in-0-clause-gives : goal.returns-in-0-clause-gives
unfolding obeyed order_of pick
returns-in-0-clause-gives c = rw c.in-0.is (c.do_report.ensures.steps c.requires.sound)

pub returns-in-1-clause-gives : goal.returns-in-1-clause-gives
unfolding obeyed order_of pick
returns-in-1-clause-gives c = rw c.in-1.is (c.do_receive.ensures.steps c.requires.sound)

pub returns-in-2-clause-gives : goal.returns-in-2-clause-gives
unfolding obeyed order_of pick
returns-in-2-clause-gives c = rw c.in-2.is (c.do_respond.ensures.steps c.requires.sound)

pub returns-in_default-clause-gives : goal.returns-in_default-clause-gives
unfolding obeyed order_of pick
returns-in_default-clause-gives c =
    let last : c.args.kind ≡ 3 = omega (arith, c.requires.known, c.in_default) in rw last (c.do_crash.ensures.steps c.requires.sound)
