-- What is answered of a step on an image, and left in it; the plan of a step, carried out there.
use Rattle.std.specs.Prelude.{ℕ, ◌≡◌, List, length, Result, Ok, Err}
use Rattle.view.specs.Logic.{unless}
use Rattle.system.specs.declared.refusal.Refusal.{Refusal}
use Rattle.system.specs.declared.refusal.Refusal.TheVariants.{ChannelFull}
use Rattle.system.specs.System.{room_for}
use Rattle.plan.specs.declared.Reach.{Reach}
use Rattle.system.specs.declared.System.{System}
use Rattle.system.specs.Outcome.{Outcome}
use Rattle.plan.specs.declared.Cut.{Cut}
use Rattle.plan.specs.declared.Scope.{Scope}
use Rattle.plan.specs.Cut.{cut_by}
use Rattle.step.specs.Step.{taken_off, carried_out}
use Rattle.image.specs.Image.{image_width, system_in}
use Rattle.plan.specs.Plan.{Planned}

-- bytes b become bytes c and the number k is answered: that is the outcome o; where it is refused every byte is as it was, and bytes of
-- another length than an image's are so in any case
pub record Gives (o : Outcome) (b : List ℕ) (k : ℕ) (c : List ℕ) : Type 0 where
  pub outcome : record { refusal = k; system = system_in c } ≡ o
  pub kept : (k ≡ 0 → ⊥) → c ≡ b
  pub other_length : (length b ≡ image_width → ⊥) → c ≡ b

-- the plan a, whole or cut, of an action that names these
abbrev pub carried : System → Scope → Cut → Planned → Outcome
carried s c cut a = carried_out s (taken_off s c) c.actor.0 (cut_by cut a)

-- the reach of a message of process p, where its addressees have room for it
unfoldable pub with_room : System → ℕ → Result Reach Refusal → Result Reach Refusal
with_room s p (Err r) = Err r
with_room s p (Ok t) = unless (room_for s p t.addressees) (Err ChannelFull) (Ok t)
