-- What a step on bytes gives, by the code's tests; and that bytes that hold a sound system hold one again.
use Prim.Native.Nat.{ℕ}
use mathlib.Core.Path.{◌≡◌, refl, sym, ◌∙◌, ap, subst}
use mathlib.Core.Bool.{Bool, true, false}
use mathlib.Core.List.{List}
use lib.Dec.{eqb}
use lib.ListN.{length}
use Rattle.std.specs.Prelude.{Result, Ok, Err}
use Rattle.std.specs.Result.{IsErrAnd}
use Rattle.std.proofs.lemmas.Result.{err_from_is_err_and}
use Rattle.view.specs.Logic.{pick}
use Rattle.view.proofs.Laws.{true_is_not_false}
use Rattle.system.specs.declared.System.{System}
use Rattle.system.specs.declared.refusal.Refusal.{Refusal}
use Rattle.system.specs.Refusal.{number, answer_number}
use Rattle.system.specs.Outcome.{Outcome}
use Rattle.sound.specs.Sound.{sound_processes, sound_system}
use Rattle.plan.specs.declared.Action.{Action}
use Rattle.plan.specs.declared.Step.{Step}
use Rattle.plan.specs.Plan.{Planned}
use Rattle.plan.specs.Scope.{scope_of}
use Rattle.step.specs.Step.{plan_of, guarded, permitted, attempted}
use Rattle.step.proofs.Soundness.{Valid}
use Rattle.step.proofs.Inversion.{sound_stepped}
use Rattle.step.proofs.SoundSteps.{step_sound}
use Rattle.image.specs.Image.{byte, process_in, channel_in, decoded, no_system, system_in, image_width, process_width, channel_width}
use Rattle.image.proofs.Shape.{rows_long, slots_long, pending_long, entries_long}
use Rattle.alternatives.specs.Gives.{Gives, carried}
use Rattle.engine.specs.Engine.{Attempts}

-- ---- a sound system that bytes hold is valid
pub no_system_lem : sound_system no_system ≡ false
unfolding sound_system sound_processes no_system
no_system_lem = refl

abbrev Arrays : System → Type 0
Arrays s = (length s.processes ≡ 8) × (length s.channels ≡ 64) × (length s.trust ≡ 8)

shape_in : (b : List ℕ) → sound_system (system_in b) ≡ true → Arrays (system_in b)
unfolding system_in decoded pick
shape_in b sound = go (eqb (length b) image_width) sound
  where
    go : (t : Bool) → sound_system (pick t (decoded b) no_system) ≡ true → Arrays (pick t (decoded b) no_system)
    go true e = (rows_long 8 process_width process_in _, rows_long 64 channel_width channel_in _, rows_long 8 1 (byte 0) _)
    go false e = true_is_not_false (sym e ∙ no_system_lem)

valid_in : (b : List ℕ) → sound_system (system_in b) ≡ true → Valid (system_in b)
valid_in b sound =
    record {
      shape =
          record {
            processes = (shape_in b sound).0;
            channels = (shape_in b sound).1;
            slots = slots_long b;
            pending = pending_long b;
            entries = entries_long b;
            trust = (shape_in b sound).2;
          };
      sound = sound;
    }

attempts : (o : Step) (b : List ℕ) (k : ℕ) (c : List ℕ) → Gives (attempted (system_in b) o) b k c → Attempts o b k c
attempts o b k c given =
    record {
      gives = given;
      steps = λ sound. record { outcome = given.outcome ∙ sym (sound_stepped (system_in b) o sound); kept = given.kept; other_length = given.other_length };
      stays = λ sound.
          subst (λ (s : System). sound_system s ≡ true)
          (sym (ap (λ (a : Outcome). a.system) (given.outcome ∙ sym (sound_stepped (system_in b) o sound))))
          (step_sound (system_in b) o (valid_in b sound)).sound;
    }

-- the step whose action is a
pub of_action : (o : Step) (a : Action) (b : List ℕ) (k : ℕ) (c : List ℕ) → o.action ≡ a → Attempts (record { action = a; cut = o.cut }) b k c → Attempts o b k c
of_action o a b k c e done = subst (λ (x : Action). Attempts (record { action = x; cut = o.cut }) b k c) (sym e) done

-- ---- the code's tests, one after the other
module _ (b : List ℕ) (o : Step) where
  -- refusals 2 and 3
  pub turned_away : (x : Result (Unit {0}) Refusal) (r : Refusal) → IsErrAnd x (λ y. y ≡ r)
      → Err r ≡ guarded (system_in b) (scope_of o.action).actor (scope_of o.action).partner
      → Attempts o b (answer_number x) b
  unfolding attempted permitted
  turned_away x r passed told =
      let y = err_from_is_err_and x passed in
      rw (y.1, y.2) (attempts o b (number r) b (record { outcome = rw (← told) refl; kept = λ h. refl; other_length = λ h. refl }))

  -- otherwise the plan is carried out
  pub passes : (x : Unit {0}) → Ok x ≡ guarded (system_in b) (scope_of o.action).actor (scope_of o.action).partner → (a : Planned) (k : ℕ) (d : List ℕ)
      → Gives (carried (system_in b) (scope_of o.action) o.cut a) b k d
      → a ≡ plan_of (system_in b) o.action
      → Attempts o b k d
  unfolding attempted permitted
  passes x none a k d gives plan = attempts o b k d (record { outcome = gives.outcome ∙ rw (← plan, ← none) refl; kept = gives.kept; other_length = gives.other_length })
