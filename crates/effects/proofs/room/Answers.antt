-- `effects::room`: what the loop over the addressees asks is asked of each of 1 to 8 that is named.
use mathlib.Core.Path.{◌∙◌}
use borrow.Author.Rules.{rules}
use borrow.Author.Tests.{tests}
use Rattle.std.proofs.lemmas.Iterator.Consumers.{YieldsList-from_first}
use Rattle.std.proofs.lemmas.Iterator.Search.{all_from_yields_List}
use Rattle.view.specs.declared.ProcessId.{ProcessId}
use Rattle.system.specs.System.{takes_if_named, room_for}
use Rattle.step.specs.Step.{taken_off}
use Rattle.image.specs.Image.{system_in}
use Rattle.effects.specs.declared.Members.{Members}
use Rattle.effects.specs.Named.{members_of, takes}
use Rattle.effects.proofs.Named.{all_members}
use Rattle.effects.proofs.room.Goals as goal

pub returns : goal.returns
unfolding room_for takes_if_named takes
returns c =
    let a = c.args in
    let t = taken_off (system_in a.image.now) a.c in
    let test = takes t a.c.actor.0 in
    all_from_yields_List test _ _ _ c.all.ensures.ran
    (YieldsList-from_first (λ (p : ProcessId). p.0) (λ (s : Members). members_of s.rest) (members_of a.to) (rw c.members_of.ensures))
    (λ x b q k. search (rules, tests))
    ∙ all_members a.to test
