-- `settle::resting_at`: each of the processes.
use borrow.Author.Rules.{rules}
use Rattle.std.proofs.Common.{◌∙◌}
use Rattle.view.proofs.Chains.{all_tested}
use Rattle.step.specs.Rest.{resting_from, resting_at}
use Rattle.image.specs.Image.{system_in}
use Rattle.settle.proofs.resting_at.Goals as goal

pub returns : goal.returns
unfolding resting_at
returns c =
    all_tested _ _ _ _ (resting_from (system_in c.args.image.now) c.args.p.0) c.new.ensures.start (c.new.ensures.end ∙ c.size.ensures) c.new.ensures.exhausted c.all.ensures.ran (λ b x q k. search rules)
