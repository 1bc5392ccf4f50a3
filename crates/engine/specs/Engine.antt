-- What a step on an image answers and leaves in it, where the system is taken to be sound.
use Rattle.std.specs.Prelude.{ℕ, ◌≡◌, true, List}
use Rattle.sound.specs.Sound.{sound_system}
use Rattle.plan.specs.declared.Step.{Step}
use Rattle.step.specs.Step.{attempted, stepped}
use Rattle.image.specs.Image.{system_in}
use Rattle.alternatives.specs.Gives.{Gives}

-- a step on a system taken to be sound: where it is, the outcome is the step's, and the bytes hold a sound system again
pub record Attempts (o : Step) (b : List ℕ) (k : ℕ) (c : List ℕ) : Type 0 where
  pub gives : Gives (attempted (system_in b) o) b k c
  pub steps : sound_system (system_in b) ≡ true → Gives (stepped (system_in b) o) b k c
  pub stays : sound_system (system_in b) ≡ true → sound_system (system_in c) ≡ true
