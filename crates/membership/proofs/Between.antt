-- A step of the engine between encoding and decoding is the step, and a settling run the settling run.
use Rattle.std.proofs.Common.{ℕ, ◌≡◌, refl, sym, ◌∙◌, ap, List, Ok, Err, eqb, length, eq-eqb}
use Rattle.view.specs.Logic.{pick}
use Rattle.view.proofs.Laws.{true_is_not_false}
use Rattle.system.specs.declared.System.{System}
use Rattle.system.specs.declared.refusal.Refusal.{Refusal}
use Rattle.system.specs.Refusal.{number}
use Rattle.system.specs.Fresh.{fresh_system}
use Rattle.plan.specs.declared.Step.{Step}
use Rattle.step.specs.Step.{stepped}
use Rattle.image.specs.Image.{image_width, encoded, decoded, system_in}
use Rattle.codec.proofs.Lengths.{Lengths}
use Rattle.codec.proofs.Back.{encode_call, decode_call}
use Rattle.alternatives.specs.Gives.{Gives}
use Rattle.alternatives.proofs.Carrying.{some_number}
use Rattle.settling.specs.declared.Ending.TheVariants.{Held}
use Rattle.settling.specs.Settle.{settled}
use Rattle.settle.specs.declared.Settling.{Settling}
use Rattle.settle.specs.Settles.{settled_told, Settles}

-- bytes a become b by `encode` of s, and c by a call
module _ (s : System) (a b c : List ℕ) (l : Lengths s) (long : length a ≡ image_width) (e : length b ≡ length a) (f : length c ≡ length b)
    (put : b ≡ pick (eqb (length a) image_width) (encoded s) a) where
  held : system_in b ≡ s
  held = encode_call s l a b long put

  -- t is decoded from them
  module _ (t : System) (got : t ≡ pick (eqb (length c) image_width) (decoded c) (fresh_system 0)) where
    now : t ≡ system_in c
    now = decode_call c t (f ∙ e ∙ long) got

    pub between : (o : Step) → Gives (stepped (system_in b) o) b 0 c → record { refusal = 0; system = t } ≡ stepped s o
    between o gives = rw (now, gives.outcome, held)

    pub settled_between : (budget : ℕ) (r : Settling) → Settles budget b (Ok r) c
        → record { refusal = 0; steps = r.steps; ending = r.ending; system = t } ≡ settled budget s
    unfolding settled_told
    settled_between budget r run = rw (now, run.outcome, held)

  -- the call changed nothing
  pub refused_between : (o : Step) (k : Refusal) → Gives (stepped (system_in b) o) b (number k) c → record { refusal = number k; system = s } ≡ stepped s o
  refused_between o k gives =
      ap (λ (x : System). record { refusal = number k; system = x }) (sym (ap system_in (gives.kept (λ h. true_is_not_false (sym (eq-eqb (number k) 0 h) ∙ some_number k))) ∙ held))
      ∙ gives.outcome
      ∙ ap (λ (x : System). stepped x o) held

  pub unsettled_between : (budget : ℕ) (k : Refusal) → Settles budget b (Err k) c
      → record { refusal = number k; steps = 0; ending = Held; system = s } ≡ settled budget s
  unfolding settled_told
  unsettled_between budget k run =
      ap (λ (x : System). record { refusal = number k; steps = 0; ending = Held; system = x }) (sym (ap system_in (run.kept refl) ∙ held))
      ∙ run.outcome
      ∙ ap (settled budget) held
