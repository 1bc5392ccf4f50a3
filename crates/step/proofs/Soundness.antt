-- The soundness test, taken apart into facts and put together from them; and what is valid.
use Prim.Native.Nat.{ℕ, ◌≤◌, ◌<◌}
use mathlib.Core.Path.{◌≡◌, refl}
use mathlib.Core.Bool.{Bool, true, ◌&&◌, not}
use mathlib.Core.List.{List, [], ◌∷◌}
use native.Mathlib.Omega.{arith}
use borrow.Author.Tests.{leb-true, eqb-true, eq-eqb, eqb-false, ne_eqb, not-true}
use lib.Dec.{leb, eqb}
use Rattle.view.specs.declared.GroupIndex.{GroupIndex}
use Rattle.view.specs.Logic.{pick, all_up_to}
use Rattle.view.specs.View.{has, within}
use Rattle.view.proofs.Laws.{and_left, and_right, and_intro, all_intro, all_elim, Each}
use Rattle.channel.specs.declared.Message.{Message}
use Rattle.channel.specs.declared.Message.TheVariants.{Retry, Acc}
use Rattle.channel.specs.declared.Channel.{Channel}
use Rattle.channel.specs.Channel.{waiting}
use Rattle.system.specs.declared.Variables.{Variables}
use Rattle.system.specs.declared.Process.{Process}
use Rattle.system.specs.declared.System.{System}
use Rattle.system.specs.Process.{entry_at, pending_at}
use Rattle.system.specs.System.{process_at, variables_at, channel_at}
use Rattle.sound.specs.Sound.{in_range, every, sound_proposal, sound_message, sound_pending, sound_channel, sound_history, sound_variables, sound_process, sound_process_at, sound_channel_at, sound_channels_from, sound_processes, sound_channels, sound_system}
use Rattle.step.proofs.Frames.{Shape}

-- ---- a proposal
pub record SoundProposal (n q p v i : ℕ) : Type 0 where
  pub low : 2 ≤ i
  pub high : i ≤ 32
  pub inside : within n v ≡ true
  pub sender : has v q ≡ true
  pub receiver : has v p ≡ true

pub proposal_facts : (n q p v i : ℕ) → sound_proposal n q p v i ≡ true → SoundProposal n q p v i
unfolding sound_proposal
proposal_facts n q p v i e = grind arith

pub proposal_sound : (n q p v i : ℕ) → SoundProposal n q p v i → sound_proposal n q p v i ≡ true
unfolding sound_proposal
proposal_sound n q p v i f = grind arith

-- ---- messages
pub every_each : (f : Message → Bool) (ms : List Message) → every f ms ≡ true → Each (λ m. f m ≡ true) ms
unfolding every
every_each f [] e = tt
every_each f (m ∷ ms) e = (and_left (f m) (every f ms) e, every_each f ms (and_right (f m) (every f ms) e))

pub each_every : (f : Message → Bool) (ms : List Message) → Each (λ m. f m ≡ true) ms → every f ms ≡ true
unfolding every
each_every f [] e = refl
each_every f (m ∷ ms) e = and_intro e.0 (each_every f ms e.1)

pub retry_facts : (n q p : ℕ) (old new : GroupIndex) → sound_message n q p (Retry old new) ≡ true
    → (2 ≤ old.0) × (old.0 ≤ 32) × (old.0 < new.0) × (new.0 ≤ 33)
unfolding sound_message
retry_facts n q p old new e = grind arith

pub acc_facts : (n q p : ℕ) (i : GroupIndex) → sound_message n q p (Acc i) ≡ true → (2 ≤ i.0) × (i.0 ≤ 32)
unfolding sound_message
acc_facts n q p i e = grind arith

-- ---- a channel
pub record SoundChannel (n : ℕ) (crashed : Bool) (q p : ℕ) (c : Channel) : Type 0 where
  pub short : c.len ≤ 8
  pub silent : crashed ≡ true → c.len ≡ 0
  pub messages : Each (λ m. sound_message n q p m ≡ true) (waiting c)

pub channel_facts : (n : ℕ) (crashed : Bool) (q p : ℕ) (c : Channel) → sound_channel n crashed q p c ≡ true → SoundChannel n crashed q p c
unfolding sound_channel
channel_facts n crashed q p c e = grind (arith, every_each)

pub channel_sound : (n : ℕ) (crashed : Bool) (q p : ℕ) (c : Channel) → SoundChannel n crashed q p c → sound_channel n crashed q p c ≡ true
unfolding sound_channel
channel_sound n crashed q p c f = grind (arith, each_every)

-- ---- a process
pub record SoundVariables (n p : ℕ) (x : Variables) : Type 0 where
  pub next_low : 2 ≤ x.next.0
  pub next_high : x.next.0 ≤ 33
  pub propout_low : 1 ≤ x.propout.0
  pub propout_high : x.propout.0 ≤ 32
  pub view_inside : within n x.view ≡ true
  pub proposal_inside : within n x.proposal ≡ true
  pub acks_inside : within n x.acks ≡ true
  pub own : has x.view p ≡ true
  pub none_proposed : x.propout.0 ≡ 1 → x.proposal ≡ 0
  pub own_proposed : (x.propout.0 ≡ 1 → ⊥) → has x.proposal p ≡ true

pub record SoundProcess (n p : ℕ) (x : Process) : Type 0 where
  pub variables : SoundVariables n p x.variables
  pub entries : (i : ℕ) → 1 ≤ i → i ≤ 32 → within n (entry_at x.history i) ≡ true
  pub first : entry_at x.history 1 ≡ 0 → ⊥
  pub recorded : (q : ℕ) → 1 ≤ q → q ≤ n → sound_pending n q p (pending_at x q) ≡ true

-- the test of the last proposed view
proposed : Variables → ℕ → Bool
proposed x p = pick (eqb x.propout.0 1) (eqb x.proposal 0) (has x.proposal p)

proposed_none : (x : Variables) (p : ℕ) → proposed x p ≡ true → x.propout.0 ≡ 1 → x.proposal ≡ 0
unfolding proposed pick
proposed_none x p e h = eqb-true x.proposal 0 (rw (eq-eqb x.propout.0 1 h) at e)

proposed_own : (x : Variables) (p : ℕ) → proposed x p ≡ true → (x.propout.0 ≡ 1 → ⊥) → has x.proposal p ≡ true
unfolding proposed pick
proposed_own x p e h = rw (ne_eqb x.propout.0 1 h) at e

proposed_test : (x : Variables) (p : ℕ) → (x.propout.0 ≡ 1 → x.proposal ≡ 0) → ((x.propout.0 ≡ 1 → ⊥) → has x.proposal p ≡ true)
    → proposed x p ≡ true
unfolding proposed pick
proposed_test x p one other = grind arith

variables_facts : (n p : ℕ) (x : Variables) → sound_variables n p x ≡ true → SoundVariables n p x
unfolding sound_variables proposed
variables_facts n p x e7 = grind (arith, proposed_none, proposed_own)

variables_sound : (n p : ℕ) (x : Variables) → SoundVariables n p x → sound_variables n p x ≡ true
unfolding sound_variables proposed
variables_sound n p x f = grind (arith, proposed_test)

pub process_facts : (n p : ℕ) (x : Process) → sound_process n p x ≡ true → SoundProcess n p x
unfolding sound_process sound_history
process_facts n p x e =
    let pend = all_up_to n (λ q. sound_pending n q p (pending_at x q)) in
    let inside = all_up_to 32 (λ i. within n (entry_at x.history i)) in
    let one = not (eqb (entry_at x.history 1) 0) in
    let t = sound_variables n p x.variables in
    let both = and_left (t && (inside && one)) pend e in
    let history = and_right t (inside && one) both in
    record {
      variables = variables_facts n p x.variables (and_left t (inside && one) both);
      entries = all_elim 32 (λ i. within n (entry_at x.history i)) (and_left inside one history);
      first = eqb-false (entry_at x.history 1) 0 (not-true _ (and_right inside one history));
      recorded = all_elim n (λ q. sound_pending n q p (pending_at x q)) (and_right (t && (inside && one)) pend e);
    }

pub process_sound : (n p : ℕ) (x : Process) → SoundProcess n p x → sound_process n p x ≡ true
unfolding sound_process sound_history
process_sound n p x f = grind (arith, variables_sound, all_intro)

-- ---- a system
pub record Sound (s : System) : Type 0 where
  pub low : 1 ≤ s.n
  pub high : s.n ≤ 8
  pub process : (p : ℕ) → 1 ≤ p → p ≤ s.n → SoundProcess s.n p (process_at s p)
  pub channel : (q p : ℕ) → 1 ≤ q → q ≤ s.n → 1 ≤ p → p ≤ s.n → SoundChannel s.n (variables_at s p).crashed q p (channel_at s q p)

pub sound_facts : (s : System) → sound_system s ≡ true → Sound s
unfolding sound_system sound_processes sound_channels sound_process_at sound_channels_from sound_channel_at
sound_facts s e =
    let ps = and_left (sound_processes s) (sound_channels s) e in
    let size = and_left (in_range 1 8 s.n) (all_up_to s.n (sound_process_at s)) ps in
    let each_process = and_right (in_range 1 8 s.n) (all_up_to s.n (sound_process_at s)) ps in
    let each_sender = and_right (sound_processes s) (sound_channels s) e in
    record {
      low = leb-true 1 s.n (and_left (leb 1 s.n) (leb s.n 8) size);
      high = leb-true s.n 8 (and_right (leb 1 s.n) (leb s.n 8) size);
      process = λ q l u. process_facts _ _ _ (all_elim s.n (sound_process_at s) each_process q l u);
      channel = λ q p l u k v. channel_facts _ _ _ _ _ (all_elim s.n (sound_channel_at s q) (all_elim s.n (sound_channels_from s) each_sender q l u) p k v);
    }

pub facts_sound : (s : System) → Sound s → sound_system s ≡ true
unfolding sound_system sound_processes sound_channels sound_process_at sound_channels_from sound_channel_at
facts_sound s f = grind (arith, all_intro, process_sound, channel_sound)

-- what every step is proved of: the arrays have their lengths, and the system is sound
pub record Valid (s : System) : Type 0 where
  pub shape : Shape s
  pub sound : sound_system s ≡ true
