-- `counting::waiting_in`: the sum of what waits towards each process, for none of them above 65,025.
use borrow.Author.Rules.{rules}
use Rattle.std.proofs.Common.{◌∙◌, ap, arith}
use Rattle.view.specs.Logic.{pick, sum_up_to}
use Rattle.view.proofs.Chains.{sum_told, sum_fits}
use Rattle.step.specs.Step.{taken_off}
use Rattle.events.specs.Counts.{waiting_towards, waiting_in}
use Rattle.image.specs.Image.{system_in}
use Rattle.counting.proofs.Counting.{few_in}
use Rattle.counting.proofs.waiting_in.Goals as goal

pub sum-requires-clause-fits : goal.sum-requires-clause-fits
unfolding taken_off pick
sum-requires-clause-fits c =
    let h = waiting_towards (system_in c.args.image.now) in
    sum_fits _ h c.new.ensures.start c.new.ensures.end c.new.ensures.exhausted c.map.ensures.source c.map.ensures.closure (λ x a q k. search rules) _
    (omega (arith, few_in _ c.type_inv.image c.size.result c.size.type_inv))

pub returns : goal.returns
unfolding waiting_in taken_off pick
returns c =
    let h = waiting_towards (system_in c.args.image.now) in
    sum_told _ h c.new.ensures.start c.new.ensures.end c.new.ensures.exhausted c.map.ensures.source c.map.ensures.closure (λ x a q k. search rules) _ c.sum.ensures.ran
    ∙ ap (λ k. sum_up_to k h) c.size.ensures
