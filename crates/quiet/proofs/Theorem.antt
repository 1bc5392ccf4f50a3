-- When it is quiet, it is agreed: for a fresh system of any size and for every list of events, refused ones included.
use Prim.Native.Nat.{ℕ}
use mathlib.Core.Path.{◌≡◌, sym, ◌∙◌, ap}
use mathlib.Core.Bool.{true}
use mathlib.Core.List.{List}
use native.Mathlib.Omega.{arith}
use Rattle.view.specs.Logic.{is_one_of}
use Rattle.view.specs.View.{has, everyone}
use Rattle.view.specs.Logic.{pick}
use Rattle.view.proofs.Sets.{has_number, has_inside}
use Rattle.system.specs.Fresh.{fresh_system, fresh_of}
use Rattle.step.specs.Rest.{at_rest}
use Rattle.step.proofs.Soundness.{sound_facts}
use Rattle.step.proofs.Beginning.{fresh_shape}
use Rattle.events.specs.Event.{Event, ran, moves_in, grown}
use Rattle.events.proofs.Runs.{run_size, run_sound}
use Rattle.agreement.specs.Accepted.{accepted_then}
use Rattle.agreement.proofs.Steps.{run_after, still_in}
use Rattle.quiet.specs.Quiet.{is_common, Final, Quiet}
use Rattle.quiet.proofs.Opening.{opening, opened-accepted, fresh_opened}
use Rattle.quiet.proofs.Orderly.{run_orderly}
use Rattle.step.proofs.Beginning.{first_entered}
use Rattle.quiet.proofs.Beginning.{fresh_orderly}
use Rattle.quiet.proofs.Resting.{Begun, common_facts, resting_final}

-- ---- one to eight processes
module _ (n : ℕ) (size : is_one_of 8 n ≡ true) (es : List Event) where
  pub run_begun : Begun (ran (fresh_system n) es) (grown accepted_then (opening n) (fresh_system n) (moves_in (fresh_system n) es))
  unfolding fresh_system
  run_begun =
      let same : (ran (fresh_system n) es).n ≡ n = run_size (fresh_system n) es in
      record {
        entry = λ u k.
            (run_after (fresh_system n) (opening n) es (fresh_opened n size)).since.first u 1 (omega arith)
            ∙ first_entered n u k.low k.eight
            ∙ ap everyone (sym same);
        opened = λ u k.
            rw same
            (still_in (fresh_system n) (opening n) es (fresh_shape n) u (everyone n) 1 (opened-accepted n (everyone n) u k.low (omega (arith, k.high))));
      }

  run_final : (v : ℕ) → at_rest (ran (fresh_system n) es) ≡ true → is_common (ran (fresh_system n) es) v ≡ true → Final (ran (fresh_system n) es) v
  run_final v rest common =
      let f = common_facts (ran (fresh_system n) es) v common in
      resting_final (run_orderly (fresh_system n) (opening n) es (fresh_shape n) (fresh_orderly n size)) (sound_facts _ (run_sound n size es)) run_begun v rest f f.live

-- ---- no process: no view names one
nobody_final : (es : List Event) (v : ℕ) → is_common (ran (fresh_system 0) es) v ≡ true → Final (ran (fresh_system 0) es) v
unfolding fresh_system
nobody_final es v common =
    record { same = λ p q hp hq. absurd (none p hp); holds = λ p h. absurd (none p h); proposed = λ p h. absurd (none p h) }
  where
    none : (p : ℕ) → has v p ≡ true → ⊥
    none p h =
        let f = common_facts (ran (fresh_system 0) es) v common in
        omega (arith, has_number v p h, has_inside _ v p f.inside h, run_size (fresh_system 0) es)

-- ---- of any number n
pub quiet_is_agreed : (n : ℕ) (es : List Event) → Quiet n es
unfolding fresh_of pick
quiet_is_agreed n es v = grind (arith, run_final, nobody_final)
