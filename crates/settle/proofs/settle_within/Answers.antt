-- `settle::settle_within`: the rounds, and how they ended.
use Rattle.std.proofs.Common.{rules, sym, ◌∙◌}
use Rattle.settle.proofs.Laws.{run_settles, unsound_settles}
use Rattle.settle.proofs.settle_within.Goals as goal

pub returns-then-not-sound : goal.returns-then-not-sound
returns-then-not-sound c = unsound_settles _ _ (sym c.sound.ensures ∙ c.if-not-sound.true)

pub returns : goal.returns
returns c = let same = c.rounds.ensures.same_bytes ∙ c.new-run.ensures.same_bytes in run_settles _ _ _ _ c.new-run.ensures _ c.rounds.ensures c.ending.ensures _ (search rules)
