-- `settle::at_rest`: each of the processes.
use borrow.Author.Rules.{rules}
use Rattle.std.proofs.Common.{◌∙◌}
use Rattle.view.proofs.Chains.{all_tested}
use Rattle.step.specs.Rest.{resting_at, at_rest}
use Rattle.image.specs.Image.{system_in}
use Rattle.settle.proofs.at_rest.Goals as goal

pub returns : goal.returns
unfolding at_rest
returns c =
    all_tested _ _ _ _ (resting_at (system_in c.args.image.now)) c.new.ensures.start (c.new.ensures.end ∙ c.size.ensures) c.new.ensures.exhausted c.all.ensures.ran (λ b x q k. search rules)
