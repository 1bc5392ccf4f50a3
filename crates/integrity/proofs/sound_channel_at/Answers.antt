-- `integrity::sound_channel_at`: by whether messages wait.
use Rattle.std.proofs.Common.{sym, ◌∙◌, eq-eqb}
use Rattle.integrity.proofs.Laws.{empty_sound}
use Rattle.integrity.proofs.sound_channel_at.Goals as goal

pub returns-then-length_at-eq0 : goal.returns-then-length_at-eq0
returns-then-length_at-eq0 c = eq-eqb _ _ c.if-length_at-eq0.true ∙ sym (empty_sound _ _ _ _ _ (sym c.length_at.ensures ∙ c.if-length_at-eq0.true))
