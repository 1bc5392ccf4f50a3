-- `counting::vanished`: each of the addressees counts 1 at most.
use borrow.Author.Rules.{rules}
use Rattle.std.proofs.Common.{arith, ◌∙◌}
use Rattle.std.proofs.lemmas.Iterator.{YieldsList-from_map}
use Rattle.std.proofs.lemmas.Iterator.Consumers.{YieldsList-at, YieldsList-from_first, sum_from_yields_List, fits_from_yields_list}
use Rattle.view.specs.Logic.{one, pick}
use Rattle.view.specs.declared.ProcessId.{ProcessId}
use Rattle.system.specs.System.{variables_at}
use Rattle.events.specs.Counts.{vanished}
use Rattle.image.specs.Image.{system_in}
use Rattle.effects.specs.declared.Members.{Members}
use Rattle.effects.specs.Named.{members_of}
use Rattle.counting.proofs.Counting.{few_vanish, addressees_vanish}
use Rattle.counting.proofs.vanished.Goals as goal

pub sum-requires-clause-fits : goal.sum-requires-clause-fits
unfolding vanished one pick
sum-requires-clause-fits c =
    let s = system_in c.args.image.now in
    fits_from_yields_list _ _
    (YieldsList-from_map _ (λ k. one (variables_at s k).crashed)
    (YieldsList-at c.map.ensures.source (YieldsList-from_first (λ (p : ProcessId). p.0) (λ (m : Members). members_of m.rest) (members_of c.args.to) (rw c.members_of.ensures)))
    c.map.ensures.closure (λ x a q k. search rules))
    (omega (arith, addressees_vanish s c.args.to, few_vanish s c.args.to))

pub returns : goal.returns
unfolding vanished one pick
returns c =
    let s = system_in c.args.image.now in
    let told =
    sum_from_yields_List _ _ c.sum.ensures.ran
    (YieldsList-from_map _ (λ k. one (variables_at s k).crashed)
    (YieldsList-at c.map.ensures.source (YieldsList-from_first (λ (p : ProcessId). p.0) (λ (m : Members). members_of m.rest) (members_of c.args.to) (rw c.members_of.ensures)))
    c.map.ensures.closure (λ x a q k. search rules))
    ∙ addressees_vanish s c.args.to in
    (told, omega (arith, told, few_vanish s c.args.to))
