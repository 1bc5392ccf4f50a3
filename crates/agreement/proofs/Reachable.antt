-- Two facts about every system that steps reach from a fresh one: when a Retry is acted on, the last proposed view equals the local
-- view; and no Acc waits for a process whose last proposed view is empty.
use Prim.Native.Nat.{ℕ}
use mathlib.Core.Path.{◌≡◌, subst}
use mathlib.Core.Bool.{true}
use mathlib.Core.List.{List, [], ◌∷◌}
use native.Mathlib.Omega.{arith}
use Rattle.view.specs.declared.GroupIndex.{GroupIndex}
use Rattle.view.specs.Logic.{is_one_of}
use Rattle.view.specs.View.{least_of}
use Rattle.view.proofs.Laws.{one_of, by_number, Each}
use Rattle.view.proofs.Sets.{not_empty}
use Rattle.channel.specs.declared.Message.{Message}
use Rattle.channel.specs.declared.Message.TheVariants.{Retry, Acc}
use Rattle.system.specs.declared.Variables.{Variables}
use Rattle.system.specs.declared.System.{System}
use Rattle.system.specs.System.{variables_at}
use Rattle.system.specs.Fresh.{fresh_system}
use Rattle.sound.specs.Sound.{sound_message}
use Rattle.step.proofs.Soundness.{Sound, sound_facts, retry_facts, acc_facts}
use Rattle.step.proofs.Cases.{waiting_at}
use Rattle.events.specs.Event.{Event, ran}
use Rattle.events.proofs.Runs.{run_sound}
use Rattle.agreement.specs.Accepted.{accepted_in}
use Rattle.agreement.proofs.Invariant.{Honest, Reached}
use Rattle.agreement.proofs.Beginning.{fresh_reached}
use Rattle.agreement.proofs.Steps.{run_after}

module _ (n : ℕ) (size : is_one_of 8 n ≡ true) (es : List Event) where
  -- the system reached
  abbrev s : System
  s = ran (fresh_system n) es

  sound : Sound s
  sound = sound_facts s (run_sound n size es)

  reached : Reached s (accepted_in (fresh_system n) es)
  unfolding accepted_in
  reached = (run_after (fresh_system n) [] es (fresh_reached n)).reached

  module _ (q p : ℕ) (known-q : is_one_of (ran (fresh_system n) es).n q ≡ true) (known-p : is_one_of (ran (fresh_system n) es).n p ≡ true) where
    abbrev x : Variables
    x = variables_at s p

    -- the oldest message from q to p is sound
    sound_first : (m : Message) (rest : List Message) → waiting_at s q p ≡ m ∷ rest → sound_message s.n q p m ≡ true
    sound_first m rest first = grind (arith, one_of, sound)

    -- past PropOut 1 the last proposed view is not empty
    some_proposed : (x.propout.0 ≡ 1 → ⊥) → x.proposal ≡ 0 → ⊥
    some_proposed later = grind (arith, one_of, not_empty, sound)

    -- Document 01, of a Retry acted on: "The last proposed view is not touched; after any steps from a fresh table it equals the local
    -- view at that moment." The Retry is the oldest message from q to p, its old index is PropOut, and p is the least of its local view.
    pub retry_proposes_view : (old new : GroupIndex) (rest : List Message) → waiting_at (ran (fresh_system n) es) q p ≡ Retry old new ∷ rest
        → (variables_at (ran (fresh_system n) es) p).propout.0 ≡ old.0
        → (least_of (variables_at (ran (fresh_system n) es) p).view).0 ≡ p
        → (variables_at (ran (fresh_system n) es) p).proposal ≡ (variables_at (ran (fresh_system n) es) p).view
    retry_proposes_view old new rest first present least =
        let f = retry_facts s.n q p old new (sound_first (Retry old new) rest first) in
        (reached.own p).leads (some_proposed (λ one. omega (arith, f))) least

    -- Document 01's departure is never met by steps from a fresh system: while the last proposed view of p is empty, no Acc waits for it
    pub departure_not_met : (i : GroupIndex) (rest : List Message) → waiting_at (ran (fresh_system n) es) q p ≡ Acc i ∷ rest
        → (variables_at (ran (fresh_system n) es) p).proposal ≡ 0
        → ⊥
    departure_not_met i rest first none =
        let answered = (subst (Each (Honest (accepted_in (fresh_system n) es) (variables_at s) q p)) first (reached.messages q p)).0 in
        let f = acc_facts s.n q p i (sound_first (Acc i) rest first) in
        by_number x.propout.0 1 (λ one. omega (arith, answered.bound)) (λ later. some_proposed later none)
