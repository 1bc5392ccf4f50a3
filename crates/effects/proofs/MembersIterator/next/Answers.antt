-- `Members::next`: the least is the first.
use mathlib.Core.Path.{◌∙◌, ap}
use borrow.Author.Rules.{rules}
use native.Mathlib.Omega.{arith}
use lib.ListN.{length}
use Rattle.effects.specs.Named.{members_of}
use Rattle.effects.proofs.Named.{first_member, no_member}
use Rattle.effects.proofs.MembersIterator.next.Goals as goal

pub returns-then-self-eq0-clause-steps : goal.returns-then-self-eq0-clause-steps
returns-then-self-eq0-clause-steps c =
    let none = ap members_of c.if-self-eq0.true ∙ no_member in
    (none, none)

pub returns-clause-steps : goal.returns-clause-steps
returns-clause-steps c = rw c.least-p.ensures (first_member _ (search rules) c.if-self-eq0.false)

pub returns-clause-goes : goal.returns-clause-goes
returns-clause-goes c =
    let first = first_member c.args.self.now.rest (search rules) c.if-self-eq0.false in
    grind (arith, ap length first)
