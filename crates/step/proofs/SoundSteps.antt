-- A step on a sound system gives a sound system, whatever the system; and so every list of steps from a fresh one.
use Prim.Native.Nat.{ℕ, ◌+◌, ◌≤◌, ◌<◌}
use mathlib.Core.Path.{◌≡◌, refl, sym, ◌∙◌, ap, subst}
use mathlib.Core.Bool.{Bool, true, false}
use mathlib.Core.List.{List, [], ◌∷◌}
use native.Mathlib.Omega.{arith}
use borrow.Author.Tests.{le-leb}
use lib.ListN.{length}
use Rattle.std.specs.Prelude.{None, Some}
use Rattle.view.specs.declared.ProcessId.{ProcessId}
use Rattle.view.specs.declared.GroupIndex.{GroupIndex}
use Rattle.view.specs.View.{has, within}
use Rattle.view.proofs.Laws.{and_intro, by_number, true_is_not_false, Each}
use Rattle.view.proofs.Sets.{has_none, not_empty, within_none, within-with}
use Rattle.channel.specs.declared.Message.{Message}
use Rattle.channel.specs.declared.Message.TheVariants.{Propose, Retry, Acc, Commit}
use Rattle.channel.proofs.Laws.{length-waiting}
use Rattle.system.specs.declared.Variables.{Variables}
use Rattle.system.specs.declared.Process.{Process}
use Rattle.system.specs.declared.System.{System}
use Rattle.system.specs.Outcome.{Outcome}
use Rattle.system.specs.Process.{index, Pending, proposal_at}
use Rattle.system.specs.System.{process_at, variables_at, channel_at}
use Rattle.system.proofs.Histories.{entry_other, each_entry}
use Rattle.sound.specs.Sound.{sound_message, sound_pending}
use Rattle.plan.specs.declared.Change.{Change}
use Rattle.plan.specs.declared.Action.{Action}
use Rattle.plan.specs.declared.Action.TheVariants.{Report, Receive, Respond, Crash}
use Rattle.plan.specs.declared.Step.{Step}
use Rattle.plan.specs.Fields.{with_view, with_next, with_acks, proposing, reproposing}
use Rattle.plan.specs.Plan.{assigning, recording, entering, no_message}
use Rattle.step.specs.Step.{stepped}
use Rattle.step.proofs.Soundness.{SoundProposal, SoundVariables, SoundProcess, SoundChannel, Sound, Valid, sound_facts, facts_sound, proposal_sound}
use Rattle.step.proofs.Cases.{waiting_at, Acts, afterwards, Fate, stays, grows, empties, Effect, Marking, present, stale, Transition, proposes, follows, records, reproposes, ignores, marks, commits, enters, accepts, declines, crashes}
use Rattle.step.proofs.Effects.{Part, all_left, taken_left, each_process, each_on, each_pending}
use Rattle.step.proofs.Inversion.{by_outcome}

-- ---- the process that acted
-- its variables, what it records and what it enters are sound
record SoundChange (n p : ℕ) (c : Change) : Type 0 where
  variables : SoundVariables n p c.variables
  pending : sound_pending n c.proposer.0 p c.pending ≡ true
  entry : within n c.entry ≡ true
  past : c.index.0 ≡ 1 → ⊥

changed_sound : (n p : ℕ) (x : Process) (c : Change) (stops : Bool) → SoundProcess n p x → SoundChange n p c → SoundProcess n p (afterwards x c stops)
unfolding afterwards
changed_sound n p x c stops f g =
    record {
      variables =
          record {
            next_low = g.variables.next_low;
            next_high = g.variables.next_high;
            propout_low = g.variables.propout_low;
            propout_high = g.variables.propout_high;
            view_inside = g.variables.view_inside;
            proposal_inside = g.variables.proposal_inside;
            acks_inside = g.variables.acks_inside;
            own = g.variables.own;
            none_proposed = g.variables.none_proposed;
            own_proposed = g.variables.own_proposed;
          };
      entries = each_entry x.history c.index.0 c.entry (λ i v. 1 ≤ i → i ≤ 32 → within n v ≡ true) (λ l a b. g.entry) f.entries;
      first = rw (entry_other x.history c.index.0 c.entry 1 (λ e. g.past (sym e))) f.first;
      recorded = each_pending (λ j y. 1 ≤ j → j ≤ n → sound_pending n j p y ≡ true) x c stops (λ l a b. g.pending) f.recorded;
    }

-- ---- any effect of a sound change that sends sound messages
none_of : (ms : List Message) → Each (λ m. ⊥) ms → ms ≡ []
none_of [] e = refl
none_of (m ∷ ms) e = absurd e.0

module _ {s t : System} {left : ℕ → ℕ → List Message} {p : ℕ} {c : Change} {stops : Bool} {to : ℕ} {m : Message} (valid : Valid s) (acts : Acts s p)
    (part : Part s left)
    (f : Effect s t left p c stops to m) where
  abbrev was : Sound s
  was = sound_facts s valid.sound

  -- nothing waits towards a process that has stopped
  nothing_towards : (q k : ℕ) → 1 ≤ q → q ≤ s.n → 1 ≤ k → k ≤ s.n → (variables_at s k).crashed ≡ true → Fate s t left p stops f.told m q k
      → waiting_at t q k ≡ []
  nothing_towards q k a b d e crashed (stays same) = same ∙ none_of (left q k) (part (λ x. ⊥) q k (none (waiting_at s q k) nobody))
    where
      none : (ms : List Message) → length ms ≡ 0 → Each (λ x. ⊥) ms
      none [] z = tt
      none (x ∷ ms) z = absurd (omega arith)

      nobody : length (waiting_at s q k) ≡ 0
      nobody =
          let channel = was.channel q k a b d e in
          length-waiting (channel_at s q k) (valid.shape.slots q k) channel.short ∙ channel.silent crashed
  nothing_towards q k a b d e crashed (grows from named live g) = true_is_not_false (sym crashed ∙ live)
  nothing_towards q k a b d e crashed (empties at stop g) = g

  -- it has stopped in this step or before
  silent : c.variables.crashed ≡ false → (q k : ℕ) → 1 ≤ q → q ≤ s.n → 1 ≤ k → k ≤ s.n → (variables_at t k).crashed ≡ true → waiting_at t q k ≡ []
  unfolding afterwards
  silent calm q k a b d e = grind (arith, nothing_towards)

  effect_sound : c.variables.crashed ≡ (variables_at s p).crashed → SoundChange s.n p c
      → ((b : ℕ) → has to b ≡ true → sound_message s.n p b m ≡ true)
      → Valid t
  effect_sound calm change message =
      record {
        shape = f.shape;
        sound = facts_sound t
            (record {
              low = rw f.size was.low;
              high = rw f.size was.high;
              process = λ k l h.
                  subst (λ (n : ℕ). SoundProcess n k (process_at t k)) (sym f.size)
                  (each_process f (λ j y. 1 ≤ j → j ≤ s.n → SoundProcess s.n j y)
                  (λ i j. changed_sound s.n p (process_at s p) c stops (was.process p i j) change)
                  was.process
                  k
                  l
                  (rw f.size at h));
              channel = λ q k a b d e.
                  subst (λ (n : ℕ). SoundChannel n (variables_at t k).crashed q k (channel_at t q k)) (sym f.size)
                  (channel q k a (rw f.size at b) d (rw f.size at e));
            });
      }
    where
      channel : (q k : ℕ) → 1 ≤ q → q ≤ s.n → 1 ≤ k → k ≤ s.n → SoundChannel s.n (variables_at t k).crashed q k (channel_at t q k)
      channel q k a b d e =
          let old = was.channel q k a b d e in
          let short = f.short q k old.short in
          let P : Message → Type 0 = λ (x : Message). sound_message s.n q k x ≡ true in
          record {
            short = short;
            silent = λ crashed.
                sym (length-waiting (channel_at t q k) (f.shape.slots q k) short) ∙ ap length (silent (calm ∙ acts.live) q k a b d e crashed);
            messages =
                each_on f P q k (part P q k old.messages) (λ from named live. subst (λ (i : ℕ). sound_message s.n i k m ≡ true) (sym from) (message k named));
          }

-- nothing is sent
quiet_sound : {s t : System} {left : ℕ → ℕ → List Message} {p : ℕ} {c : Change} {stops : Bool} → Valid s → Acts s p → Part s left
    → Effect s t left p c stops 0 no_message
    → c.variables.crashed ≡ (variables_at s p).crashed
    → SoundChange s.n p c
    → Valid t
quiet_sound valid acts part f calm change = effect_sound valid acts part f calm change (λ b named. absurd (has_none b named))

-- ---- the changes
module _ (n p : ℕ) (y : Variables) (f : SoundVariables n p y) where
  assigning_sound : SoundChange n p (assigning y)
  unfolding sound_pending
  assigning_sound = grind (arith, within_none)

  recording_sound : (q : ProcessId) (r : Pending) → sound_pending n q.0 p r ≡ true → SoundChange n p (recording y q r)
  recording_sound q r e = record { variables = f; pending = e; entry = within_none n; past = λ z. omega arith }

  entering_sound : (i v : ℕ) → 2 ≤ i → within n v ≡ true → SoundChange n p (entering y i v)
  unfolding sound_pending
  entering_sound i v l e = grind arith

  view_sound : (v : ℕ) → within n v ≡ true → has v p ≡ true → SoundVariables n p (with_view y v)
  view_sound v inside own = grind arith

  next_sound : (i : ℕ) → 2 ≤ i → i ≤ 33 → SoundVariables n p (with_next y i)
  next_sound i l h = grind arith

  acks_sound : (a : ℕ) → within n a ≡ true → SoundVariables n p (with_acks y a)
  acks_sound a inside = grind arith

  -- PropOut := i, past 1, with a last proposed view that names p; ack := 0
  reproposing_sound : (i : ℕ) → 2 ≤ i → i ≤ 32 → has y.proposal p ≡ true → SoundVariables n p (reproposing y i)
  reproposing_sound i l h named = grind (arith, within_none)

  proposing_sound : (v i : ℕ) → within n v ≡ true → has v p ≡ true → 2 ≤ i → i ≤ 32 → SoundVariables n p (proposing y v i)
  proposing_sound v i inside own l h = grind (arith, within_none)

marking_inside : (n q i acks : ℕ) (x : Variables) → 1 ≤ q → q ≤ n → q ≤ 8 → within n x.acks ≡ true → Marking x q i acks → within n acks ≡ true
marking_inside n q i acks x l h b inside (present e a) = rw a (within-with n x.acks q inside l h b)
marking_inside n q i acks x l h b inside (stale e a) = rw a inside

-- ---- the messages
propose_sound : (n q p v : ℕ) (i : GroupIndex) → SoundProposal n q p v i.0 → sound_message n q p (Propose v i) ≡ true
unfolding sound_message
propose_sound n q p v i f = proposal_sound n q p v i.0 f

commit_sound : (n q p v : ℕ) (i : GroupIndex) → SoundProposal n q p v i.0 → sound_message n q p (Commit v i) ≡ true
unfolding sound_message
commit_sound n q p v i f = proposal_sound n q p v i.0 f

acc_sound : (n q p : ℕ) (i : GroupIndex) → 2 ≤ i.0 → i.0 ≤ 32 → sound_message n q p (Acc i) ≡ true
unfolding sound_message
acc_sound n q p i l h = and_intro (le-leb 2 i.0 l) (le-leb i.0 32 h)

retry_sound : (n q p : ℕ) (old new : GroupIndex) → 2 ≤ old.0 → old.0 ≤ 32 → old.0 < new.0 → new.0 ≤ 33 → sound_message n q p (Retry old new) ≡ true
unfolding sound_message
retry_sound n q p old new a b c d = grind arith

pending_sound : (n q p v : ℕ) (i : GroupIndex) → SoundProposal n q p v i.0 → sound_pending n q p (Some (proposal_at v i)) ≡ true
unfolding sound_pending
pending_sound n q p v i f = proposal_sound n q p v i.0 f

nothing_sound : (n q p : ℕ) → sound_pending n q p None ≡ true
unfolding sound_pending
nothing_sound n q p = refl

past_one : (k : ℕ) → 1 ≤ k → (k ≡ 1 → ⊥) → 2 ≤ k
past_one k l h = by_number k 1 (λ e. absurd (h e)) (λ n. omega arith)

-- ---- each transition
module _ (s t : System) (valid : Valid s) where
  now : (p : ℕ) → Acts s p → SoundVariables s.n p (variables_at s p)
  now p a = grind (arith, sound_facts)

  transition_sound : (o : Action) → Transition s t o → Valid t
  transition_sound (Report p v) (proposes r) =
      let f = now p.0 r.acts in
      let i = (variables_at s p.0).propout.0 + 1 in
      effect_sound valid r.acts (all_left s) r.effect refl
      (assigning_sound _ _ _ (proposing_sound _ _ _ f v i r.inside r.own (omega (arith, f.propout_low)) (omega (arith, r.below))))
      (λ b named.
      propose_sound _ _ b v (index i)
      (record { low = omega (arith, f.propout_low); high = omega (arith, r.below); inside = r.inside; sender = r.own; receiver = named }))
  transition_sound (Report p v) (follows r) =
      quiet_sound valid r.acts (all_left s) r.effect refl
      (assigning_sound _ _ _ (view_sound _ _ _ (now p.0 r.acts) v r.inside r.own))
  transition_sound (Receive q p) (records r) =
      quiet_sound valid r.acts (taken_left r.taken) r.effect refl
      (recording_sound _ _ _ (now p.0 r.acts) q (Some (proposal_at r.view r.index)) (pending_sound _ _ _ r.view r.index r.sound))
  transition_sound (Receive q p) (reproposes r) =
      let f = now p.0 r.acts in
      effect_sound valid r.acts (taken_left r.taken) r.effect refl
      (assigning_sound _ _ _ (reproposing_sound _ _ _ f r.new.0 (omega (arith, r.past, r.rises)) r.below r.proposed))
      (λ b named.
      propose_sound _ _ b _ r.new
      (record { low = omega (arith, r.past, r.rises); high = r.below; inside = f.view_inside; sender = f.own; receiver = named }))
  transition_sound (Receive q p) (ignores r) =
      quiet_sound valid r.acts (taken_left r.taken) r.effect refl (assigning_sound _ _ _ (now p.0 r.acts))
  transition_sound (Receive q p) (marks r) =
      let f = now p.0 r.acts in
      quiet_sound valid r.acts (taken_left r.taken) r.effect refl
      (assigning_sound _ _ _
      (acks_sound _ _ _ f r.acks (marking_inside s.n q.0 _ _ _ r.partner.low r.partner.high r.partner.eight f.acks_inside r.marking)))
  transition_sound (Receive q p) (commits r) =
      let f = now p.0 r.acts in
      let later : (variables_at s p.0).propout.0 ≡ 1 → ⊥ = λ e. not_empty _ _ r.proposed (f.none_proposed e) in
      effect_sound valid r.acts (taken_left r.taken) r.effect refl
      (assigning_sound _ _ _ (acks_sound _ _ _ f 0 (within_none s.n)))
      (λ b named.
      commit_sound _ _ b _ (variables_at s p.0).propout
      (record { low = past_one _ f.propout_low later; high = f.propout_high; inside = f.proposal_inside; sender = r.proposed; receiver = named }))
  transition_sound (Receive q p) (enters r) =
      quiet_sound valid r.acts (taken_left r.taken) r.effect refl
      (entering_sound _ _ _ (now p.0 r.acts) r.index.0 r.view r.sound.low r.sound.inside)
  transition_sound (Respond p q) (accepts r) =
      effect_sound valid r.acts (all_left s) r.effect refl
      (recording_sound _ _ _ (next_sound _ _ _ (now p.0 r.acts) (r.index.0 + 1) (omega (arith, r.sound.low)) (omega (arith, r.sound.high))) q None (nothing_sound s.n q.0 p.0))
      (λ b named. acc_sound _ _ b r.index r.sound.low r.sound.high)
  transition_sound (Respond p q) (declines r) =
      let f = now p.0 r.acts in
      effect_sound valid r.acts (all_left s) r.effect refl
      (recording_sound _ _ _ f q None (nothing_sound s.n q.0 p.0))
      (λ b named. retry_sound _ _ b r.index (variables_at s p.0).next r.sound.low r.sound.high r.late f.next_high)
  transition_sound (Crash p) (crashes r) =
      quiet_sound valid r.acts (all_left s) r.effect refl (assigning_sound _ _ _ (now p.0 r.acts))

-- "a step on a sound system gives a sound system", refused ones too
pub step_sound : (s : System) (o : Step) → Valid s → Valid (stepped s o).system
step_sound s o valid = by_outcome (λ (a : Outcome). Valid a.system) s o valid (λ t r. transition_sound s t valid o.action r) (λ k n. valid)
