-- Where a system is at rest, only a report or a stop is ever done; and a stop writes nothing and leaves it at rest.
use Prim.Native.Nat.{ℕ, ◌≤◌}
use mathlib.Core.Path.{◌≡◌, refl, sym, ◌∙◌, subst}
use mathlib.Core.Bool.{true}
use mathlib.Core.List.{List, []}
use native.Mathlib.Omega.{arith}
use Rattle.std.specs.Prelude.{Some}
use Rattle.view.specs.declared.ProcessId.{ProcessId}
use Rattle.view.specs.declared.GroupIndex.{GroupIndex}
use Rattle.view.specs.Logic.{put}
use Rattle.view.proofs.Laws.{all_intro}
use Rattle.view.proofs.Sets.{has_none}
use Rattle.channel.specs.declared.Message.{Message}
use Rattle.channel.proofs.Laws.{length-waiting}
use Rattle.system.specs.declared.System.{System}
use Rattle.system.specs.Process.{entry_at, with_entry, pending_at, proposal_at}
use Rattle.system.specs.System.{process_at, variables_at, channel_at, entry_in}
use Rattle.plan.specs.declared.Action.{Action}
use Rattle.plan.specs.declared.Action.TheVariants.{Report}
use Rattle.plan.specs.declared.Step.{Step}
use Rattle.step.specs.Rest.{idle_from, matches, answerable, resting_from, resting_at, at_rest}
use Rattle.step.proofs.Soundness.{Valid, sound_facts}
use Rattle.step.proofs.Cases.{waiting_at, Known, Acts, Taken, afterwards, Crashes, Transition, proposes, follows, records, reproposes, ignores, marks, commits, enters, accepts, declines, crashes}
use Rattle.events.specs.Event.{Event, ran, made, moves_in}
use Rattle.events.proofs.Moves.{run_leads, ran_append}
use Rattle.events.proofs.Runs.{Made, every_run, start_shape, shape_kept}
use Rattle.agreement.specs.Demand.{start}
use Rattle.quiet.specs.AfterRest.{Unreported, Still, AfterRest}
use Rattle.quiet.proofs.Remains.{recorded_same}
use Rattle.quiet.proofs.Resting.{Resting, rest_facts}

-- ---- what is done at rest
module _ {s : System} (resting : Resting s) where
  nothing_taken : {q p : ℕ} {m : Message} {left : ℕ → ℕ → List Message} → Known s q → Known s p → Taken s q p m left → ⊥
  nothing_taken kq kp k = grind arith

  nothing_answered : {p q : ℕ} {v : ℕ} {i : GroupIndex} → Acts s p → Known s q → pending_at (process_at s p) q ≡ Some (proposal_at v i) → v ≡ (variables_at s p).view → ⊥
  unfolding matches
  nothing_answered {p} {q} k kq recorded same = let e = resting.unanswerable p q k.known kq k.live in grind arith

  pub record Stops (t : System) : Type 0 where
    pub process : ProcessId
    pub stop : Crashes s t process

  only_stops : {t : System} {o : Action} → Transition s t o → ((p : ProcessId) (v : ℕ) → o ≡ Report p v → ⊥) → Stops t
  only_stops (proposes {p} {v} r) none = absurd (none p v refl)
  only_stops (follows {p} {v} r) none = absurd (none p v refl)
  only_stops (records r) none = absurd (nothing_taken r.partner r.acts.known r.taken)
  only_stops (reproposes r) none = absurd (nothing_taken r.partner r.acts.known r.taken)
  only_stops (ignores r) none = absurd (nothing_taken r.partner r.acts.known r.taken)
  only_stops (marks r) none = absurd (nothing_taken r.partner r.acts.known r.taken)
  only_stops (commits r) none = absurd (nothing_taken r.partner r.acts.known r.taken)
  only_stops (enters r) none = absurd (nothing_taken r.partner r.acts.known r.taken)
  only_stops (accepts r) none = absurd (nothing_answered r.acts r.partner r.recorded r.same)
  only_stops (declines r) none = absurd (nothing_answered r.acts r.partner r.recorded r.same)
  only_stops (crashes {p} r) none = record { process = p; stop = r }

-- ---- a stop
module _ {s t : System} (valid : Valid s) (p : ProcessId) (r : Crashes s t p) (resting : Resting s) where
  entries_same : (k i : ℕ) → entry_in t k i ≡ entry_in s k i
  unfolding entry_in entry_at with_entry afterwards put
  entries_same k i = grind arith

  none_waits_on : (a b : ℕ) → Known s a → Known s b → waiting_at t a b ≡ []
  none_waits_on a b ka kb = grind (arith, has_none)

  short : (a b : ℕ) → Known s a → Known s b → (channel_at t a b).len ≤ 8
  short a b ka kb = r.effect.short a b ((sound_facts s valid.sound).channel a b ka.low ka.high kb.low kb.high).short

  rests_at : (a b : ℕ) → Known s a → Known s b → resting_from t a b ≡ true
  unfolding resting_from idle_from answerable afterwards
  rests_at a b ka kb = grind (arith, recorded_same, short b a kb ka, none_waits_on b a kb ka, length-waiting (channel_at t b a), r.effect.shape.slots b a)

  known : (k : ℕ) → 1 ≤ k → k ≤ t.n → Known s k
  known k low high = let same = r.effect.size in record { low = low; high = omega arith; eight = omega (arith, (sound_facts s valid.sound).high) }

  still_rests : at_rest t ≡ true
  unfolding at_rest resting_at
  still_rests = all_intro t.n (resting_at t) (λ a l h. all_intro t.n (resting_from t a) (λ b k j. rests_at a b (known a l h) (known b k j)))

-- ---- a run
by_move : (s u t : System) (o : Step) → Valid u → Made u t o → Unreported u (made o) → Still s u → Still s t
by_move s u t o valid k unreported still =
    let resting = rest_facts u still.rests in
    let stop = only_stops resting k.change unreported in
    record {
      rests = still_rests valid stop.process stop.stop resting;
      same = λ p i. entries_same valid stop.process stop.stop resting p i ∙ still.same p i;
    }

pub after_rest : (n : ℕ) (es more : List Event) → AfterRest n es more
after_rest n es more rests unreported =
    let s = ran (start n) es in
    let shape = shape_kept (start n) s (moves_in (start n) es) (run_leads (start n) es) (start_shape n) in
    subst (Still s) (sym (ran_append (start n) es more))
    (every_run {G = Unit {0}} (λ g x m. tt) Unreported (λ x g. Still s x) (λ u t g o v w k h z. by_move s u t o v k h z) s tt more shape unreported
    (record { rests = rests; same = λ p i. refl }))
