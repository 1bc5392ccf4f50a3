-- Laws of one change after another, and of the room that is left once a message is off.
use Prim.Native.Nat.{ℕ, ◌≤◌, ◌<◌}
use mathlib.Core.Path.{◌≡◌, sym, ◌∙◌, ap}
use mathlib.Core.Bool.{◌&&◌, ◌||◌}
use mathlib.Core.List.{List}
use native.Mathlib.Omega.{arith}
use lib.Dec.{eqb, ltb}
use lib.ListN.{length}
use Rattle.view.specs.Logic.{pick}
use Rattle.channel.proofs.Laws.{popped_len}
use Rattle.system.specs.declared.System.{System}
use Rattle.system.specs.System.{variables_at, channel_at}
use Rattle.plan.specs.declared.Scope.{Scope}
use Rattle.step.specs.Step.{taken_off}
use Rattle.step.proofs.TakenOff.{taken_variables, taken_channel}
use Rattle.image.specs.Image.{image_width, Becomes}
use Rattle.effects.specs.Named.{takes}

-- ---- one change after another
-- bytes of another length than an image's stay
abbrev pub Keeps : List ℕ → List ℕ → Type 0
Keeps b c = (length b ≡ image_width → ⊥) → c ≡ b

pub keeps_then : {b c d : List ℕ} → Keeps b c → Keeps c d → Keeps b d
keeps_then first next other = next (λ long. other (ap length (sym (first other)) ∙ long)) ∙ first other

pub becomes_then : {t u v : System} {b c d : List ℕ} → Becomes t b c → Becomes u c d → u ≡ v → Becomes v b d
becomes_then first next e = record { system = next.system ∙ e; kept = keeps_then first.kept next.kept }

-- ---- the room that is left
-- the code's test of one addressee
pub takes_with_room : (s : System) (c : Scope) (k len : ℕ) → len ≡ (channel_at s c.actor.0 k).len → len < 8 → ltb len 8 ≡ takes (taken_off s c) c.actor.0 k
unfolding takes pick
takes_with_room s c k len e low = grind (arith, taken_channel, popped_len)

pub takes_when_full : (s : System) (c : Scope) (k len : ℕ) → len ≡ (channel_at s c.actor.0 k).len → 8 ≤ len
    → ((variables_at s k).crashed || (((c.takes && eqb c.partner.0 c.actor.0) && eqb k c.actor.0) && eqb len 8)) ≡ takes (taken_off s c) c.actor.0 k
unfolding takes pick
takes_when_full s c k len e high = grind (arith, taken_variables, taken_channel, popped_len)
