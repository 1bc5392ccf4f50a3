-- A settling run's answer, as a number and a pair of numbers.
use Prim.Native.Nat.{ℕ}
use mathlib.Core.Path.{◌≡◌, refl, sym, ◌∙◌, ap}
use mathlib.Core.List.{List}
use lib.ListN.{set}
use Rattle.std.specs.Prelude.{Result, Ok, Err}
use Rattle.system.specs.declared.refusal.Refusal.{Refusal}
use Rattle.system.specs.Refusal.{number}
use Rattle.image.specs.Image.{system_in}
use Rattle.settling.specs.declared.Ending.TheVariants.{Held}
use Rattle.settling.specs.Settle.{Settled, settled}
use Rattle.settle.specs.declared.Settling.{Settling}
use Rattle.settle.specs.Settles.{settled_told, Settles}
use Rattle.capi.specs.Calls.{ending_number, Tells}

module _ (budget : ℕ) (b c told : List ℕ) where
  told_so : (s : Settled) → s ≡ settled budget (system_in b) → s.system ≡ system_in c → (s.steps ≡ 0 → c ≡ b)
      → Tells (settled budget (system_in b)) b s.refusal c told (set (set told 0 s.steps) 1 (ending_number s.ending))
  told_so s same left kept =
      record {
        number = ap (λ (x : Settled). x.refusal) same;
        system = sym left ∙ ap (λ (x : Settled). x.system) same;
        told = ap (λ (x : Settled). set (set told 0 x.steps) 1 (ending_number x.ending)) same;
        kept = λ none. kept (ap (λ (x : Settled). x.steps) same ∙ none);
      }

  module _ (r : Result Settling Refusal) (run : Settles budget b r c) where
    pub run_told : (x : Settling) (k : ℕ) → r ≡ Ok x → k ≡ ending_number x.ending
        → Tells (settled budget (system_in b)) b 0 c told (set (set told 0 x.steps) 1 k)
    unfolding settled_told
    run_told x k done is = rw is (told_so _ (rw done at run.outcome) refl (rw done at run.kept))

    pub refusal_told : (e : Refusal) (k : ℕ) → r ≡ Err e → k ≡ ending_number Held
        → Tells (settled budget (system_in b)) b (number e) c told (set (set told 0 0) 1 k)
    unfolding settled_told
    refusal_told e k refused is = rw is (told_so _ (rw refused at run.outcome) refl (rw refused at run.kept))
