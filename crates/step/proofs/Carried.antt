-- Carrying a plan out, inverted once for any plan, whole or cut: who may act, that the plan was not refused, and the effect.
use Prim.Native.Nat.{ℕ, ◌≤◌, ◌<◌}
use mathlib.Core.Path.{◌≡◌, refl, sym, ◌∙◌, ap, subst}
use mathlib.Core.Bool.{Bool, true, false, ◌&&◌}
use mathlib.Core.List.{List, [], ◌∷◌, ◌++◌}
use native.Mathlib.Omega.{arith}
use borrow.Author.Tests.{ltb-true, eqb-true, eqb-false}
use lib.ListN.{length, drop}
use lib.Dec.{eqb}
use Rattle.std.specs.Prelude.{Result}
use Rattle.view.specs.Logic.{pick, each_up_to, is_one_of}
use Rattle.view.specs.View.{has, count_of, first_members}
use Rattle.view.proofs.Laws.{one_of, by_pick, true_is_not_false, all_elim, each_keeps, length-put, and_left, and_right}
use Rattle.view.proofs.Sets.{has_number, count_none, first_has}
use Rattle.channel.specs.declared.Message.{Message}
use Rattle.channel.specs.declared.Channel.{Channel}
use Rattle.channel.specs.Channel.{empty_channel, waiting, popped}
use Rattle.channel.proofs.Laws.{push_waiting, push_short, empty_short, empty-waiting, pop_waiting, pop_long, pop_short}
use Rattle.system.specs.declared.Process.{Process}
use Rattle.system.specs.declared.System.{System}
use Rattle.system.specs.declared.refusal.Refusal.{Refusal}
use Rattle.system.specs.Outcome.{Outcome}
use Rattle.system.specs.Process.{as_crashed, with_variables}
use Rattle.system.specs.System.{process_at, variables_at, with_process, channel_at, with_channel, with_trust, trusting, broadcasted, takes_if_named, room_for}
use Rattle.system.proofs.Histories.{entry_long}
use Rattle.plan.specs.declared.Change.{Change}
use Rattle.plan.specs.declared.Cut.{Cut}
use Rattle.plan.specs.declared.Cut.TheVariants.{Whole, After}
use Rattle.plan.specs.declared.Scope.{Scope}
use Rattle.plan.specs.Plan.{changed, Planned, plan}
use Rattle.plan.specs.Cut.{reach_of, cut_by}
use Rattle.step.specs.Step.{departed, suspected_if_named, doubted, changed_at, crashed_at, crashed_if, effected, taken_off, if_allowed, carried_out, permitted}
use Rattle.step.proofs.Frames.{Shape, Numbered, channels_stay, process_same, process_other, channel_apart, shape_process, each_channel}
use Rattle.step.proofs.Cases.{waiting_at, afterwards, Fate, stays, grows, empties, Effect, Known, Acts, Taken}
use Rattle.step.proofs.Soundness.{Sound, Valid, sound_facts}
use Rattle.step.proofs.TakenOff.{popped_same}
use Rattle.step.proofs.Trust.{effect_trust}
use Rattle.step.proofs.Broadcasts.{Channels, channels_same, channels_with, Told, told_all, Emptied, emptied_up_to, emptied_all}

-- ---- the effect of a plan that does not stop, carried out in u: s, without the message that the step takes
pub record Ready (s u : System) : Type 0 where
  pub frame : Channels s u
  pub short : (a b : ℕ) → (channel_at s a b).len ≤ 8 → (channel_at u a b).len ≤ 8

module _ (s u : System) (ready : Ready s u) (p : ℕ) (number : Numbered p) (live : (variables_at s p).crashed ≡ false) (c : Change)
    (calm : c.variables.crashed ≡ false) (to : ℕ) (m : Message) (room : room_for u p to ≡ true) where
  abbrev x : Process
  x = changed (process_at u p) c

  abbrev v : System
  v = with_process u p x

  abbrev w : System
  w = broadcasted v p to m

  v_shape : Shape v
  unfolding changed
  v_shape =
      shape_process u ready.frame.shape p number x
      (length-put (process_at u p).pending c.proposer.0 _ ∙ ready.frame.shape.pending p)
      (entry_long (process_at u p).history c.index.0 c.entry ∙ ready.frame.shape.entries p)

  pub out : Told v p to m 8 w
  out = told_all v v_shape p number to m

  v_size : v.n ≡ u.n
  unfolding with_process
  v_size = refl

  pub same_crashed : (b : ℕ) → (variables_at v b).crashed ≡ (variables_at s b).crashed
  unfolding changed
  same_crashed b = grind (arith, process_same, process_other)

  actor_changed : process_at w p ≡ afterwards (process_at s p) c false
  unfolding changed afterwards
  actor_changed = grind (arith, out, process_same)

  pub has_room_lem : (b : ℕ) → has to b ≡ true → (variables_at s b).crashed ≡ false → (channel_at u p b).len < 8
  unfolding room_for takes_if_named
  has_room_lem b named on =
      let k = has_number to b named in
      let on-u : (variables_at u b).crashed ≡ false = ap (λ (y : Process). y.variables.crashed) (ready.frame.processes b) ∙ on in
      ltb-true (channel_at u p b).len 8 (rw (named, on-u) at (all_elim 8 (takes_if_named u p to) room b k.0 k.1))

  goes_out : (b : ℕ) → has to b ≡ true → (variables_at s b).crashed ≡ false → waiting_at w p b ≡ waiting_at u p b ++ (m ∷ [])
  goes_out b named on = grind (arith, out, has_number, same_crashed, channels_stay, push_waiting, has_room_lem)

  pub as_before : (a b : ℕ) → (a ≡ p → has to b ≡ true → (variables_at s b).crashed ≡ false → ⊥) → channel_at w a b ≡ channel_at u a b
  as_before a b h = grind (arith, out, same_crashed, channels_stay)

  -- one channel, by whether m goes out on it
  on_channel : {C : Type 0} (a b : ℕ) → (a ≡ p → has to b ≡ true → (variables_at s b).crashed ≡ false → C) → (channel_at w a b ≡ channel_at u a b → C) → C
  on_channel a b goes stays_so = grind (arith, as_before)

  pub sent_effect : Effect s w (waiting_at u) p c false to m
  sent_effect =
      record {
        shape = out.frame.shape;
        size = out.frame.size ∙ v_size ∙ ready.frame.size;
        actor = actor_changed;
        others = λ k n. grind (arith, out, process_other);
        told = to;
        addressed = λ b h. h;
        whole = λ e b h. h;
        channels = λ a b.
            on_channel a b
            (λ e named on. grows e named on (subst (λ (i : ℕ). waiting_at w i b ≡ waiting_at u i b ++ (m ∷ [])) (sym e) (goes_out b named on)))
            (λ same. stays (ap waiting same));
        sent = λ b named on h. goes_out b named on;
        silent = λ e. true_is_not_false (sym e);
        short = grind (arith, out, channels_stay, push_short);
      }

-- ---- and p stops
module _ {s w : System} {left : ℕ → ℕ → List Message} {p : ℕ} {c : Change} {to : ℕ} {m : Message} (f : Effect s w left p c false to m) (number : Numbered p) where
  abbrev stopped : Process
  stopped = with_variables (process_at w p) (as_crashed (variables_at w p))

  abbrev halted : System
  halted = with_process w p stopped

  halted_shape : Shape halted
  unfolding with_variables
  halted_shape = shape_process w f.shape p number stopped (f.shape.pending p) (f.shape.entries p)

  gone : Emptied halted p 8 (crashed_at w p)
  unfolding crashed_at
  gone = emptied_up_to halted halted_shape p number 8 (omega arith)

  halted_size : halted.n ≡ w.n
  unfolding with_process
  halted_size = refl

  stopped_actor : process_at (crashed_at w p) p ≡ afterwards (process_at s p) c true
  unfolding afterwards with_variables as_crashed
  stopped_actor = grind (arith, gone, process_same)

  pub elsewhere : (a b : ℕ) → (b ≡ p → ⊥) → channel_at (crashed_at w p) a b ≡ channel_at w a b
  elsewhere a b n = gone.rest a b n ∙ channels_stay w p stopped a b

  pub towards : (a : ℕ) → channel_at (crashed_at w p) a p ≡ empty_channel
  towards = emptied_all halted p (crashed_at w p) gone

  same_fate : (a b : ℕ) → (b ≡ p → ⊥) → Fate s w left p false f.told m a b → Fate s (crashed_at w p) left p true f.told m a b
  same_fate a b n (stays e) = stays (ap waiting (elsewhere a b n) ∙ e)
  same_fate a b n (grows e named on g) = grows e named on (ap waiting (elsewhere a b n) ∙ g)
  same_fate a b n (empties e stop g) = absurd (n e)

  stopped_effect : Effect s (crashed_at w p) left p c true to m
  stopped_effect =
      record {
        shape = gone.frame.shape;
        size = gone.frame.size ∙ halted_size ∙ f.size;
        actor = stopped_actor;
        others = λ k n. grind (arith, gone, process_other);
        told = f.told;
        addressed = f.addressed;
        whole = λ e. true_is_not_false e;
        channels = grind (arith, towards, empty-waiting, same_fate);
        sent = grind (arith, elsewhere);
        silent = λ e a. ap waiting (towards a) ∙ empty-waiting;
        short = grind (arith, towards, empty_short, elsewhere);
      }

-- p comes to suspect others first: no process and no channel changes by that
doubted_shape : (u : System) → Shape u → (p d : ℕ) → Shape (doubted u p d)
unfolding doubted with_trust process_at channel_at suspected_if_named departed trusting
doubted_shape u shape p d =
    record {
      processes = shape.processes;
      channels = shape.channels;
      slots = shape.slots;
      pending = shape.pending;
      entries = shape.entries;
      trust =
          each_keeps (λ (l : List ℕ). length l ≡ 8) 8 (suspected_if_named u p d)
          (λ k low high l long.
          by_pick (λ (m : List ℕ). length m ≡ 8) (has d k) _ _
          (λ named.
          length-put (departed u p k l) k _
          ∙ by_pick (λ (m : List ℕ). length m ≡ 8) (has (variables_at u p).view k) _ _ (λ there. length-put l p _ ∙ long) (λ gone. long))
          (λ other. long))
          u.trust
          shape.trust;
    }

pub doubted_ready : (s u : System) → Ready s u → (p d : ℕ) → Ready s (doubted u p d)
unfolding doubted with_trust process_at channel_at
doubted_ready s u ready p d = grind (arith, doubted_shape)

-- an effect that tells just these
pub record Telling (s t : System) (left : ℕ → ℕ → List Message) (p : ℕ) (c : Change) (stops : Bool) (to : ℕ) (m : Message) (reach : ℕ) : Type 0 where
  pub effect : Effect s t left p c stops to m
  pub just : effect.told ≡ reach

-- the effect of any plan. No change touches whether a process has stopped: that is for the stop
pub plan_effect : (s u : System) → Ready s u → (p : ℕ) → Numbered p → (variables_at s p).crashed ≡ false → (a : Planned) → a.change.variables.crashed ≡ false
    → room_for u p a.addressees ≡ true
    → Telling s (effected u p a) (waiting_at u) p a.change a.stops a.addressees a.message a.addressees
unfolding sent_effect stopped_effect effected changed_at crashed_if pick doubted with_trust channel_at room_for takes_if_named process_at
plan_effect s u ready p number live a calm room = by_stop a.stops
  where
    w : System
    w = broadcasted (changed_at (doubted u p a.suspects) p a.change) p a.addressees a.message

    f : Effect s w (waiting_at u) p a.change false a.addressees a.message
    f = sent_effect s (doubted u p a.suspects) (doubted_ready s u ready p a.suspects) p number live a.change calm a.addressees a.message room

    by_stop : (stops : Bool) → Telling s (pick stops (crashed_at w p) w) (waiting_at u) p a.change stops a.addressees a.message a.addressees
    by_stop true = record { effect = stopped_effect f number; just = refl }
    by_stop false = record { effect = f; just = refl }

-- ---- the message comes off
taken_ready : (s : System) → Shape s → (q p : ℕ) → Numbered q → Numbered p → Ready s (with_channel s q p (popped (channel_at s q p)))
taken_ready s shape q p from to =
    record {
      frame = channels_with s s (channels_same s shape) q p from to (popped (channel_at s q p)) (pop_long (channel_at s q p) (shape.slots q p));
      short = each_channel s shape q p from to (popped (channel_at s q p)) (λ a b d. (channel_at s a b).len ≤ 8 → d.len ≤ 8)
          (pop_short (channel_at s q p))
          (λ a b h. h);
    }

same_ready : (s : System) → Shape s → Ready s s
same_ready s shape = record { frame = channels_same s shape; short = λ a b h. h }

-- where a message waits, the length is not 0
some_wait : (c : Channel) (m : Message) (ms : List Message) → waiting c ≡ m ∷ ms → 0 < c.len
unfolding waiting
some_wait c m ms e = grind arith

pub taken_first : (s : System) → Shape s → (q p : ℕ) → (channel_at s q p).len ≤ 8 → (m : Message) (ms : List Message) → waiting_at s q p ≡ m ∷ ms
    → Taken s q p m (waiting_at (with_channel s q p (popped (channel_at s q p))))
taken_first s shape q p short m ms e =
    record {
      first = e
          ∙ ap (λ (l : List Message). m ∷ l)
          (sym (ap (drop 1) e) ∙ pop_waiting (channel_at s q p) (shape.slots q p) (some_wait (channel_at s q p) m ms e) short
          ∙ ap waiting (sym (popped_same s q p)));
      others = λ a b h. grind (arith, channel_apart);
    }

-- Messages that are never sent: where p stops, an effect on some of the addressees is one on all of them. So what is proved of every
-- transition is proved of those that are cut.
never_sent : {s t : System} {left : ℕ → ℕ → List Message} {p : ℕ} {c : Change} {some to : ℕ} {m : Message} → ((b : ℕ) → has some b ≡ true → has to b ≡ true)
    → Telling s t left p c true some m some
    → Telling s t left p c true to m some
never_sent inside f =
    let e = f.effect in
    record {
      effect =
          record {
            shape = e.shape;
            size = e.size;
            actor = e.actor;
            others = e.others;
            told = e.told;
            addressed = λ b h. inside b (e.addressed b h);
            whole = λ z. true_is_not_false z;
            channels = e.channels;
            sent = e.sent;
            silent = e.silent;
            short = e.short;
          };
      just = f.just;
    }

-- ---- any plan: the step is done where p may act, q is known, the plan is not refused and its message finds room
pub record Carried (s t : System) (left : ℕ → ℕ → List Message) (p q : ℕ) (a : Planned) : Type 0 where
  pub acts : Acts s p
  pub partner : Known s q
  pub plain : a.refusal ≡ 0
  pub trust : t.trust ≡ each_up_to 8 (suspected_if_named s p a.suspects) s.trust
  pub effect : a.change.variables.crashed ≡ (variables_at s p).crashed → Telling s t left p a.change a.stops a.addressees a.message a.addressees

-- as the definition of a step says it
abbrev Done : System → Scope → Planned → Outcome → Type 0
Done s c a o = o.refusal ≡ 0 → Carried s o.system (waiting_at (taken_off s c)) c.actor.0 c.partner.0 a

module _ (s : System) (valid : Valid s) where
  abbrev pub sound : Sound s
  sound = sound_facts s valid.sound

  pub known : (k : ℕ) → is_one_of s.n k ≡ true → Known s k
  known k e = let b = one_of s.n k e in record { low = b.0; high = b.1; eight = omega (arith, sound.high) }

  pub number : (k : ℕ) → Known s k → Numbered k
  number k h = record { low = h.low; high = h.eight }

  pub ready : (c : Scope) → Known s c.actor.0 → Known s c.partner.0 → Ready s (taken_off s c)
  unfolding taken_off
  ready c to from =
      by_pick (Ready s) c.takes _ _
      (λ e. taken_ready s valid.shape c.partner.0 c.actor.0 (number _ from) (number _ to))
      (λ e. same_ready s valid.shape)

  pub carried : (c : Scope) (a : Planned) → Done s c a (permitted s c a)
  unfolding permitted carried_out
  carried c a =
      let to = is_one_of s.n c.actor.0 in
      let from = is_one_of s.n c.partner.0 in
      let D = λ (r : Result (Unit {0}) Refusal). Done s c a (if_allowed s r (carried_out s (taken_off s c) c.actor.0 a)) in
      by_pick D (to && from) _ _
      (λ both.
      let k = known c.actor.0 (and_left to from both) in
      let j = known c.partner.0 (and_right to from both) in
      by_pick D (variables_at s c.actor.0).crashed _ _
      (λ crashed z. absurd (omega arith))
      (λ live.
      by_pick (Done s c a) (eqb a.refusal 0) _ _
      (λ plain.
      by_pick (Done s c a) (room_for (taken_off s c) c.actor.0 a.addressees) _ _
      (λ room z.
      record {
        acts = record { known = k; live = live };
        partner = j;
        plain = eqb-true a.refusal 0 plain;
        trust = effect_trust s c c.actor.0 a;
        effect = λ calm. plan_effect s (taken_off s c) (ready c k j) c.actor.0 (number _ k) live a (calm ∙ live) room;
      })
      (λ full z. absurd (omega arith)))
      (λ refusal z. absurd (eqb-false a.refusal 0 refusal z))))
      (λ stranger z. absurd (omega arith))

-- ---- any action, whose plan is a: whole, or cut
pub record Performed (s t : System) (left : ℕ → ℕ → List Message) (p q : ℕ) (a : Planned) (reach : ℕ) : Type 0 where
  pub acts : Acts s p
  pub partner : Known s q
  pub plain : a.refusal ≡ 0
  pub trust : t.trust ≡ each_up_to 8 (suspected_if_named s p a.suspects) s.trust
  -- its process stops where it does as it plans, and where it is cut
  pub stops : Bool
  pub effect : a.change.variables.crashed ≡ (variables_at s p).crashed → Telling s t left p a.change stops a.addressees a.message reach
  -- what sends nothing is never cut
  pub quiet : a.addressees ≡ 0 → a.change.variables.crashed ≡ (variables_at s p).crashed
      → Telling s t left p a.change a.stops a.addressees a.message reach

cut_performed : {s t : System} {left : ℕ → ℕ → List Message} {p q n : ℕ} {a : Planned} → a.refusal ≡ 0 → n < count_of a.addressees
    → Carried s t left p q (plan 0 a.change true (first_members n a.addressees) a.message a.suspects)
    → Performed s t left p q a (first_members n a.addressees)
cut_performed {n} {a} plain early k =
    record {
      acts = k.acts;
      partner = k.partner;
      plain = plain;
      trust = k.trust;
      stops = true;
      effect = λ calm. never_sent (first_has n a.addressees) (k.effect calm);
      quiet = λ none. absurd (omega (arith, early, ap count_of none ∙ count_none));
    }

pub performed : {s t : System} {left : ℕ → ℕ → List Message} {p q : ℕ} (cut : Cut) (a : Planned) → Carried s t left p q (cut_by cut a)
    → Performed s t left p q a (cut_by cut a).addressees
unfolding cut_by reach_of pick
performed Whole a = grind arith
performed {s} {t} {left} {p} {q} (After n) a = grind (arith, cut_performed)
