-- After rest, as long as no process of a common view is told a view: their views and PropOut of the least of them stay, nothing of its last
-- proposal comes back, and they accept nothing past it.
use Prim.Native.Nat.{ℕ, ◌<◌}
use mathlib.Core.Path.{◌≡◌, refl, sym, ◌∙◌, ap, subst}
use mathlib.Core.Bool.{Bool, true, false}
use mathlib.Core.List.{List, [], ◌∷◌, ◌++◌, append-nil}
use mathlib.Core.Logic.{⊎_elim}
use native.Mathlib.Omega.{arith}
use Rattle.std.specs.Prelude.{None, Some}
use Rattle.view.specs.declared.ProcessId.{ProcessId}
use Rattle.view.specs.Logic.{is_one_of}
use Rattle.view.specs.View.{has, least_of}
use Rattle.view.proofs.Laws.{Each, by_pick, by_number, true_is_not_false}
use Rattle.view.proofs.Sets.{has_none, has_only, has_number, has_inside, not_empty}
use Rattle.view.proofs.Members.{least_named}
use Rattle.channel.specs.declared.Message.{Message}
use Rattle.channel.specs.declared.Message.TheVariants.{Propose, Retry, Acc, Commit}
use Rattle.system.specs.declared.System.{System}
use Rattle.system.specs.Process.{pending_at, Pending}
use Rattle.system.specs.System.{process_at, variables_at, entry_in}
use Rattle.system.specs.Outcome.{Outcome}
use Rattle.system.specs.Fresh.{fresh_system, fresh_of}
use Rattle.plan.specs.declared.Change.{Change}
use Rattle.plan.specs.declared.Step.{Step}
use Rattle.plan.specs.declared.Action.{Action}
use Rattle.plan.specs.declared.Action.TheVariants.{Report, Receive, Respond, Crash}
use Rattle.plan.specs.Plan.{no_message}
use Rattle.step.proofs.Cases.{waiting_at, Known, Taken, afterwards, Effect, Transition, proposes, follows, records, reproposes, ignores, marks, commits, enters, accepts, declines, crashes}
use Rattle.step.specs.Rest.{at_rest}
use Rattle.step.proofs.Frames.{Shape}
use Rattle.step.proofs.Soundness.{Sound, sound_facts}
use Rattle.step.proofs.Beginning.{fresh_shape}
use Rattle.step.proofs.Effects.{Part, all_left, taken_left, each_process, each_message, each_pending}
use Rattle.events.specs.Event.{Event, ran, made, moves_in, AllSo}
use Rattle.events.proofs.Moves.{ran_append}
use Rattle.events.proofs.Runs.{Made, every_run, run_size, run_sound}
use Rattle.agreement.specs.Accepted.{Acceptance, accepted, accepted_by, accepted_then}
use Rattle.agreement.proofs.Acceptances.{Same, last_or_before}
use Rattle.agreement.proofs.Invariant.{Recorded, Reached}
use Rattle.agreement.proofs.Changes.{After, since_same, since_then}
use Rattle.agreement.proofs.Steps.{accepts_this, accepts_none, transition_after}
use Rattle.quiet.specs.Quiet.{last_non_empty, is_common}
use Rattle.quiet.specs.AfterRest.{Untold, Lasting, Lasts}
use Rattle.quiet.proofs.Opening.{opening}
use Rattle.quiet.proofs.Proposals.{LedRecord, Proposals, transition_proposals}
use Rattle.quiet.proofs.Pursuit.{Notes}
use Rattle.quiet.proofs.Orderly.{Orderly, run_orderly}
use Rattle.quiet.proofs.Beginning.{fresh_orderly}
use Rattle.quiet.proofs.Resting.{Resting, rest_facts, Common, common_facts, Begun, last_is, known, own, written_there, none_accepted, no_record, last_there}
use Rattle.quiet.proofs.Theorem.{run_begun}

-- in a system of so many processes as s, of process p and its proposals at index o
module _ (s : System) (p o : ℕ) where
  -- a message from a to b is no such proposal, and no Retry to one
  abbrev pub Calm : ℕ → ℕ → Message → Type 0
  Calm a b (Propose w i) = a ≡ p → Known s b → i.0 ≡ o → ⊥
  Calm a b (Retry old new) = b ≡ p → Known s a → old.0 ≡ o → ⊥
  Calm a b (Acc i) = Unit {0}
  Calm a b (Commit w i) = Unit {0}

  -- nor is what process u has recorded from q
  abbrev pub CalmRecord : ℕ → ℕ → Pending → Type 0
  CalmRecord u q None = Unit {0}
  CalmRecord u q (Some r) = q ≡ p → Known s u → r.index.0 ≡ o → ⊥

  pub record Calmed (old : List Acceptance) (v : ℕ) (t : System) (new : List Acceptance) : Type 0 where
    pub size : t.n ≡ s.n
    pub view : (u : ℕ) → has v u ≡ true → (variables_at t u).view ≡ v
    pub propout : (variables_at t p).propout.0 ≡ o
    pub messages : (a b : ℕ) → Each (Calm a b) (waiting_at t a b)
    pub records : (u q : ℕ) → CalmRecord u q (pending_at (process_at t u) q)
    pub before : (u w j : ℕ) → has v u ≡ true → o < j → accepted new u w j ≡ true → accepted old u w j ≡ true

  -- ---- a step, in which no process of the view is told one
  module _ {old : List Acceptance} {v : ℕ} (leader : has v p ≡ true) (lead : (least_of v).0 ≡ p) {t : System} {acc : List Acceptance}
      (r : Reached t acc) (z : Proposals t) (c : Calmed old v t acc) where
    here : (k : ℕ) → Known t k → Known s k
    here k h = let e = c.size in record { low = h.low; high = omega (arith, h.high); eight = h.eight }

    same : (k w j : ℕ) → has v k ≡ true → o < j → accepted (acc ++ []) k w j ≡ true → accepted acc k w j ≡ true
    same k w j h l e = rw append-nil at e

    quiet : (b : ℕ) → (a : ℕ) → has 0 b ≡ true → Calm a b no_message
    quiet b a named = absurd (has_none b named)

    first_calm : {q a : ℕ} {m : Message} {left : ℕ → ℕ → List Message} → Taken t q a m left → Calm q a m
    first_calm {q} {a} k = (subst (Each (Calm q a)) k.first (c.messages q a)).0

    module _ {u : System} where
      calm_effect : {left : ℕ → ℕ → List Message} {a : ℕ} {x : Change} {stops : Bool} {to : ℕ} {m : Message} {new : List Acceptance} → Effect t u left a x stops to m
          → Part t left
          → (has v a ≡ true → x.variables.view ≡ (variables_at t a).view)
          → (a ≡ p → x.variables.propout.0 ≡ (variables_at t a).propout.0)
          → CalmRecord a x.proposer.0 x.pending
          → ((b : ℕ) → has to b ≡ true → Calm a b m)
          → ((k w j : ℕ) → has v k ≡ true → o < j → accepted new k w j ≡ true → accepted acc k w j ≡ true)
          → Calmed old v u new
      unfolding afterwards
      calm_effect {a = a} {x = x} {stops = stops} f part view propout recorded calm more =
          record {
            size = f.size ∙ c.size;
            view = λ k h. grind (arith, c.view k h);
            propout = let e = c.propout in grind arith;
            messages = each_message f Calm (λ i j. part (Calm i j) i j (c.messages i j)) (λ b named live. calm b named);
            records =
                each_process f (λ k y. (j : ℕ) → CalmRecord k j (pending_at y j))
                (each_pending (CalmRecord a) (process_at t a) x stops (λ l. recorded) (c.records a))
                c.records;
            before = λ k w j h l e. c.before k w j h l (more k w j h l e);
          }

      pub transition_calm : (a : Action) → Transition t u a → ((q : ProcessId) (w : ℕ) → a ≡ Report q w → has v q.0 ≡ false) → Calmed old v u (acc ++ accepted_by t a)
      transition_calm (Report q w) (proposes k) untold =
          let out = untold q w refl in
          let other : q.0 ≡ p → ⊥ = λ e. true_is_not_false (sym leader ∙ subst (λ (j : ℕ). has v j ≡ false) e out) in
          calm_effect k.effect (all_left t) (λ h. true_is_not_false (sym h ∙ out)) (λ e. absurd (other e)) tt (λ b named e known same. other e) same
      transition_calm (Report q w) (follows k) untold =
          let out = untold q w refl in
          calm_effect k.effect (all_left t) (λ h. true_is_not_false (sym h ∙ out)) (λ e. refl) tt (λ b named. quiet b q.0 named) same
      transition_calm (Receive q a) (records k) untold =
          calm_effect k.effect (taken_left k.taken) (λ h. refl) (λ e. refl) (first_calm k.taken) (λ b named. quiet b a.0 named) same
      transition_calm (Receive q a) (reproposes k) untold =
          let other : a.0 ≡ p → ⊥ = λ e. first_calm k.taken e (here q.0 k.partner) (sym k.present ∙ ap (λ (j : ℕ). (variables_at t j).propout.0) e ∙ c.propout) in
          calm_effect k.effect (taken_left k.taken) (λ h. refl) (λ e. absurd (other e)) tt (λ b named e known same. other e) same
      transition_calm (Receive q a) (ignores k) untold =
          calm_effect k.effect (taken_left k.taken) (λ h. refl) (λ e. refl) tt (λ b named. quiet b a.0 named) same
      transition_calm (Receive q a) (marks k) untold =
          calm_effect k.effect (taken_left k.taken) (λ h. refl) (λ e. refl) tt (λ b named. quiet b a.0 named) same
      transition_calm (Receive q a) (commits k) untold =
          calm_effect k.effect (taken_left k.taken) (λ h. refl) (λ e. refl) tt (λ b named. tt) same
      transition_calm (Receive q a) (enters k) untold =
          calm_effect k.effect (taken_left k.taken) (λ h. refl) (λ e. refl) tt (λ b named. quiet b a.0 named) same
      transition_calm (Respond a q) (accepts k) untold =
          rw (accepts_this a.0 (variables_at t a.0) _ k.view k.index k.recorded k.free)
          (calm_effect k.effect (all_left t) (λ h. refl) (λ e. refl) tt (λ b named. tt)
          (λ x w j h past e. ⊎_elim (λ y. y) (λ y. absurd (late x w j h past y)) (last_or_before acc _ x w j e)))
        where
          -- it is a proposal of the least process of the view, and PropOut of that has stayed
          late : (x w j : ℕ) → has v x ≡ true → o < j → Same (record { process = a.0; view = k.view; index = k.index.0 }) x w j → ⊥
          late x w j h past y =
              let own : k.view ≡ v = k.same ∙ c.view a.0 (subst (λ (i : ℕ). has v i ≡ true) y.process h) in
              let led : (least_of k.view).0 ≡ q.0 = subst (LedRecord q.0) k.recorded (z.led_record a.0 q.0) in
              let from : q.0 ≡ p = sym led ∙ ap (λ (i : ℕ). (least_of i).0) own ∙ lead in
              let proposed = subst (Recorded (variables_at t) q.0) k.recorded (r.recorded a.0 q.0) in
              omega (arith, past, y.index, proposed.bound, ap (λ (i : ℕ). (variables_at t i).propout.0) from, c.propout)
      transition_calm (Respond a q) (declines k) untold =
          rw (accepts_none a.0 (variables_at t a.0) _ k.view k.index k.recorded k.late)
          (calm_effect k.effect (all_left t) (λ h. refl) (λ e. refl) tt
          (λ b named e known.
          subst (CalmRecord a.0 q.0) k.recorded (c.records a.0 q.0) (sym (has_only q.0 b k.partner.low k.partner.eight named) ∙ e) known)
          same)
      transition_calm (Crash a) (crashes k) untold =
          calm_effect k.effect (all_left t) (λ h. refl) (λ e. refl) tt (λ b named. quiet b a.0 named) same

-- ---- at rest
each_always : {A : Type 0} {P : A → Type 0} → ((x : A) → P x) → (xs : List A) → Each P xs
each_always f [] = tt
each_always f (x ∷ xs) = (f x, each_always f xs)

module _ {gone : ℕ → Bool} {s : System} {acc : List Acceptance} (orderly : Orderly gone s acc) (sound : Sound s) (begun : Begun s acc) (resting : Resting s) {v : ℕ}
    (common : Common s v) (stays : (k : ℕ) → has v k ≡ true → gone k ≡ false) (leader : has v (least_of v).0 ≡ true) where
  abbrev p : ℕ
  p = (least_of v).0

  abbrev o : ℕ
  o = (variables_at s (least_of v).0).propout.0

  known_leader : Known s (least_of v).0
  known_leader = known orderly sound begun resting common stays leader p leader

  none_waits : (a b : ℕ) (ms : List Message) → waiting_at s a b ≡ ms → Each (Calm s p o a b) ms
  none_waits a b [] e = tt
  none_waits a b (m ∷ ms) e = each_always calm (m ∷ ms)
    where
      some : Known s a → Known s b → ⊥
      some ka kb = let z : [] ≡ m ∷ ms = sym (resting.empty a b ka kb) ∙ e in grind arith

      calm : (x : Message) → Calm s p o a b x
      calm (Propose w i) = λ same k index. some (subst (Known s) (sym same) known_leader) k
      calm (Retry old new) = λ same k index. some k (subst (Known s) (sym same) known_leader)
      calm (Acc i) = tt
      calm (Commit w i) = tt

  none_recorded : (u q : ℕ) (y : Pending) → pending_at (process_at s u) q ≡ y → CalmRecord s p o u q y
  none_recorded u q None e = tt
  none_recorded u q (Some r) e = λ same k index.
      no_record orderly sound begun resting common stays leader u k
      (subst (Notes o) (sym e ∙ ap (λ (j : ℕ). pending_at (process_at s u) j) same) index)

  at_first : Calmed s p o acc v s acc
  at_first =
      record {
        size = refl;
        view = common.view;
        propout = refl;
        messages = λ a b. none_waits a b (waiting_at s a b) refl;
        records = λ u q. none_recorded u q (pending_at (process_at s u) q) refl;
        before = λ u w j h l e. e;
      }

  -- ---- and later
  module _ {t : System} {new : List Acceptance} (after : After s t new) (c : Calmed s p o acc v t new) where
    written_still : (u : ℕ) → has v u ≡ true → entry_in t u o ≡ v
    written_still u h =
        let e = written_there orderly sound begun resting common stays leader u h in
        after.since.written u o (λ z. not_empty v u h (sym e ∙ z)) ∙ e

    none_past : (u : ℕ) → has v u ≡ true → (j : ℕ) → o < j → entry_in t u j ≡ 0
    none_past u h j past =
        by_number (entry_in t u j) 0 (λ e. e)
        (λ filled.
        let w = entry_in t u j in
        let entered = after.reached.entries u j (omega (arith, past, (own orderly sound begun resting common stays leader).propout_low)) filled in
        absurd
        (none_accepted orderly sound begun resting common stays leader u h w j past entered.own (c.before u w j h past (entered.agreed u entered.own))
        (λ named. c.before p w j leader past (entered.agreed p named))))

    last_still : (u : ℕ) → has v u ≡ true → last_non_empty t u ≡ o
    unfolding last_non_empty
    last_still u h =
        let x = own orderly sound begun resting common stays leader in
        last_is t u o 32 x.propout_low x.propout_high (λ z. not_empty v u h (sym (written_still u h) ∙ z)) (none_past u h)

    pub lasting : Lasting s t v
    lasting =
        record {
          final = record {
            same = λ a b ha hb. last_still a ha ∙ sym (last_still b hb);
            holds = λ a h. ap (entry_in t a) (last_still a h) ∙ written_still a h;
            proposed = λ a h. last_still a h ∙ sym c.propout;
          };
          last = λ a h. last_still a h ∙ sym (last_there orderly sound begun resting common stays leader a h);
        }

  -- ---- a run
  record So (t : System) (new : List Acceptance) : Type 0 where
    after : After s t new
    proposals : Proposals t
    calmed : Calmed s p o acc v t new

  so_on : (t u : System) (new : List Acceptance) (a : Step) → Made t u a → Untold v t (made a) → So t new → So u (accepted_then new t (made a))
  unfolding accepted_then
  so_on t u new a k untold z =
      let b = transition_after z.after.reached a.action k.change in
      record {
        after = record { reached = b.reached; since = since_then z.after.since b.since };
        proposals = transition_proposals z.after.reached z.proposals a.action k.change;
        calmed = transition_calm s p o leader refl z.after.reached z.proposals z.calmed a.action k.change untold;
      }

  pub lasts_run : (more : List Event) → Shape s → AllSo (Untold v) s (moves_in s more) → Lasting s (ran s more) v
  lasts_run more shape untold =
      let z = every_run accepted_then (Untold v) So (λ t u new a x y k h z. so_on t u new a k h z) s acc more shape untold
      (record { after = record { reached = orderly.reached; since = since_same s }; proposals = orderly.proposals; calmed = at_first }) in
      lasting z.after z.calmed

-- all that is said is of the processes of the view
of_one : {s t : System} {v : ℕ} → ((p : ℕ) → has v p ≡ true → Lasting s t v) → Lasting s t v
of_one f =
    record {
      final = record {
        same = λ p q hp hq. (f p hp).final.same p q hp hq;
        holds = λ p h. (f p h).final.holds p h;
        proposed = λ p h. (f p h).final.proposed p h;
      };
      last = λ p h. (f p h).last p h;
    }

-- ---- from a fresh system
fresh_lasts : (n : ℕ) → is_one_of 8 n ≡ true → (es more : List Event) (v : ℕ) → at_rest (ran (fresh_system n) es) ≡ true → is_common (ran (fresh_system n) es) v ≡ true
    → AllSo (Untold v) (ran (fresh_system n) es) (moves_in (ran (fresh_system n) es) more)
    → Lasting (ran (fresh_system n) es) (ran (fresh_system n) (es ++ more)) v
fresh_lasts n size es more v rest common untold =
    let s = ran (fresh_system n) es in
    let orderly = run_orderly (fresh_system n) (opening n) es (fresh_shape n) (fresh_orderly n size) in
    let f = common_facts s v common in
    subst (λ (t : System). Lasting s t v) (sym (ran_append (fresh_system n) es more))
    (of_one
    (λ p h. lasts_run orderly (sound_facts _ (run_sound n size es)) (run_begun n size es) (rest_facts s rest) f f.live (least_named v p h) more orderly.reached.shape untold))

none_lasts : (es more : List Event) (v : ℕ) → is_common (ran (fresh_system 0) es) v ≡ true → Lasting (ran (fresh_system 0) es) (ran (fresh_system 0) (es ++ more)) v
unfolding fresh_system
none_lasts es more v common =
    of_one
    (λ p h. let f = common_facts (ran (fresh_system 0) es) v common in absurd (omega (arith, has_number v p h, has_inside _ v p f.inside h, run_size (fresh_system 0) es)))

pub lasts : (n : ℕ) (es more : List Event) → Lasts n es more
unfolding fresh_of
lasts n es more v =
    by_pick
    (λ (a : Outcome). at_rest (ran a.system es) ≡ true → is_common (ran a.system es) v ≡ true → AllSo (Untold v) (ran a.system es) (moves_in (ran a.system es) more) → Lasting (ran a.system es) (ran a.system (es ++ more)) v)
    (is_one_of 8 n) _ _
    (λ size. fresh_lasts n size es more v)
    (λ other rest common untold. none_lasts es more v common)
