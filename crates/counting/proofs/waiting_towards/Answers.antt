-- `counting::waiting_towards`: the sum of the channels' lengths, none of them above 255.
use borrow.Author.Rules.{rules}
use Rattle.std.proofs.Common.{◌∙◌, ap, arith}
use Rattle.view.specs.Logic.{sum_up_to}
use Rattle.view.proofs.Chains.{sum_told, sum_fits}
use Rattle.step.specs.Step.{taken_off}
use Rattle.events.specs.Counts.{waiting_from, waiting_towards}
use Rattle.image.specs.Image.{system_in}
use Rattle.step.proofs.TakenOff.{taken_size}
use Rattle.counting.proofs.Counting.{few_towards}
use Rattle.counting.proofs.waiting_towards.Goals as goal

pub sum-requires-clause-fits : goal.sum-requires-clause-fits
sum-requires-clause-fits c =
    let h = waiting_from (taken_off (system_in c.args.image.now) c.args.c) c.args.c.actor.0 in
    sum_fits _ h c.new.ensures.start c.new.ensures.end c.new.ensures.exhausted c.map.ensures.source c.map.ensures.closure (λ x a q k. search rules) _
    (omega (arith, few_towards _ c.type_inv.image c.args.c c.size.result c.size.type_inv))

pub returns : goal.returns
unfolding waiting_towards
returns c =
    let h = waiting_from (taken_off (system_in c.args.image.now) c.args.c) c.args.c.actor.0 in
    let told = sum_told _ h c.new.ensures.start c.new.ensures.end c.new.ensures.exhausted c.map.ensures.source c.map.ensures.closure (λ x a q k. search rules) _ c.sum.ensures.ran in
    (told ∙ ap (λ k. sum_up_to k h) (c.size.ensures ∙ taken_size _ _), omega (arith, told, few_towards _ c.type_inv.image c.args.c c.size.result c.size.type_inv))
