-- What is promised of the program.
use Rattle.std.specs.Prelude.{ℕ, ◌≡◌, true, List, Result, Ok, Err}
use Rattle.tallies.specs.declared.Tally.{Tally}
use Rattle.tallies.specs.Tally.{no_tally}
use Rattle.system.specs.declared.System.{System}
use Rattle.system.specs.declared.Refused.{Refused}
use Rattle.system.specs.declared.refusal.Refusal.{Refusal}
use Rattle.system.specs.Refusal.{number}
use Rattle.sound.specs.Sound.{sound_system}
use Rattle.image.specs.Image.{system_in}
use Rattle.settling.specs.declared.Ending.TheVariants.{Held}
use Rattle.settling.specs.Settle.{Settled, settled, settled_tally}
use Rattle.settle.specs.declared.Settling.{Settling}
use Rattle.settle.specs.declared.SettledSystem.{SettledSystem}

-- what a run answers, and the system after it
unfoldable pub settled_told : Result Settling Refusal → System → Settled
settled_told (Ok r) s = record { refusal = 0; steps = r.steps; ending = r.ending; system = s }
settled_told (Err k) s = record { refusal = number k; steps = 0; ending = Held; system = s }

-- what it counts
unfoldable pub tally_in : Result Settling Refusal → Tally
tally_in (Ok r) = r.tally
tally_in (Err k) = no_tally

-- bytes b become bytes c and r is answered: that is the run with its budget; where no step was done every byte is as it was, and a sound
-- system stays one
pub record Settles (budget : ℕ) (b : List ℕ) (r : Result Settling Refusal) (c : List ℕ) : Type 0 where
  pub outcome : settled_told r (system_in c) ≡ settled budget (system_in b)
  pub tally : tally_in r ≡ settled_tally budget (system_in b)
  pub kept : (settled_told r (system_in c)).steps ≡ 0 → c ≡ b
  pub stays : sound_system (system_in b) ≡ true → sound_system (system_in c) ≡ true

-- the same by value
unfoldable pub settled_of : Result SettledSystem Refused → Settled
settled_of (Ok r) = record { refusal = 0; steps = r.steps; ending = r.ending; system = r.system }
settled_of (Err e) = record { refusal = number e.refusal; steps = 0; ending = Held; system = e.system }
