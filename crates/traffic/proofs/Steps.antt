-- One step: what is sent waits, or is taken, or is lost.
use Prim.Native.Nat.{ℕ, ◌+◌, ◌≤◌, ◌<◌}
use mathlib.Core.Path.{◌≡◌, refl, sym, ◌∙◌, subst}
use mathlib.Core.Bool.{Bool, true, false, ◌&&◌}
use native.Mathlib.Omega.{arith}
use borrow.Author.Tests.{eqb-true}
use lib.Dec.{eqb}
use Rattle.view.specs.Logic.{pick, is_one_of, one}
use Rattle.std.specs.Prelude.{Result}
use Rattle.view.specs.View.{has, within, count_of}
use Rattle.view.proofs.Laws.{by_pick, and_left, and_right}
use Rattle.tallies.specs.declared.Tally.{Tally}
use Rattle.tallies.specs.Tally.{no_tally}
use Rattle.system.specs.declared.System.{System}
use Rattle.system.specs.declared.refusal.Refusal.{Refusal}
use Rattle.system.specs.Outcome.{Outcome, done}
use Rattle.system.specs.System.{process_at, variables_at, channel_at, with_trust, takes_if_named, room_for}
use Rattle.plan.specs.declared.Scope.{Scope}
use Rattle.plan.specs.declared.Step.{Step}
use Rattle.plan.specs.Scope.{scope_of}
use Rattle.plan.specs.Cut.{cut_by}
use Rattle.plan.specs.Plan.{Planned}
use Rattle.step.specs.Step.{plan_of, taken_off, placed, doubted, changed_at, crashed_at, crashed_if, effected, carried_out, permitted, attempted, if_allowed}
use Rattle.events.specs.Counts.{waiting_in, waiting_towards, vanishes_at, vanished, lost_at, plan_tally, tally_if, step_tally}
use Rattle.step.proofs.Frames.{Numbered}
use Rattle.step.proofs.Cases.{waiting_at, Known, Effect}
use Rattle.step.proofs.Soundness.{Valid}
use Rattle.step.proofs.Carried.{Ready, doubted_ready, ready, sent_effect, sound, number, known}
use Rattle.step.proofs.Inversion.{sound_stepped}
use Rattle.step.proofs.Outcomes.{effected_size}
use Rattle.events.proofs.Runs.{Made}
use Rattle.traffic.proofs.Plans.{step_fits, cut_plain, message_found}
use Rattle.traffic.proofs.Waiting.{towards_up_to, waiting_up_to, towards_sized, waiting_sized, one_off, own_told, waits_once_told, waits_once_stopped}

-- ---- the plan of process p is carried out in u
effected_waits : (n : ℕ) → n ≤ 8 → (s u : System) → s.n ≡ n → Ready s u → (p : ℕ) → Numbered p → p ≤ n → (variables_at s p).crashed ≡ false → (a : Planned)
    → a.change.variables.crashed ≡ false
    → room_for u p a.addressees ≡ true
    → within n a.addressees ≡ true
    → waiting_up_to n (effected u p a) + lost_at u p a ≡ waiting_up_to n u + count_of a.addressees
unfolding effected lost_at vanished vanishes_at changed_at crashed_if pick doubted with_trust channel_at room_for takes_if_named process_at
effected_waits n small s u size r p from high live a calm room inside = by_stop a.stops
  where
    w : System
    w = placed u p a

    before : Ready s (doubted u p a.suspects)
    before = doubted_ready s u r p a.suspects

    f : Effect s w (waiting_at (doubted u p a.suspects)) p a.change false a.addressees a.message
    f = sent_effect s (doubted u p a.suspects) before p from live a.change calm a.addressees a.message room

    told : waiting_up_to n w + vanished u a.addressees ≡ waiting_up_to n u + count_of a.addressees
    told = waits_once_told n small s (doubted u p a.suspects) before p from high live a.change calm a.addressees a.message room inside

    own : towards_up_to n w p ≡ towards_up_to n u p + one (has a.addressees p)
    own = own_told n small s (doubted u p a.suspects) before p from high live a.change calm a.addressees a.message room inside

    by_stop : (stops : Bool)
        → waiting_up_to n (pick stops (crashed_at w p) w) + (vanished u a.addressees + pick stops (waiting_towards u p + one (has a.addressees p)) 0)
        ≡ waiting_up_to n u + count_of a.addressees
    by_stop true = omega (arith, told, own, waits_once_stopped n f from high, towards_sized n u (r.frame.size ∙ size) p)
    by_stop false = omega (arith, told)

-- ---- the message comes off, where the step takes one
off_waits : (s : System) (valid : Valid s) (c : Scope) → Known s c.actor.0 → Known s c.partner.0
    → (c.takes ≡ true → 0 < (channel_at s c.partner.0 c.actor.0).len)
    → waiting_up_to s.n (taken_off s c) + one c.takes ≡ waiting_up_to s.n s
unfolding taken_off one pick
off_waits s valid c to from some = grind (arith, one_off)

-- ---- the step
-- What waited in s, and what is sent, waits in t, or is taken, or is lost. (A step counts nothing as waiting: that is counted in the end.)
abbrev pub Balanced : System → System → Tally → Type 0
Balanced s t a = a.taken + (a.waiting + waiting_in t) + a.lost ≡ waiting_in s + a.sent

-- the outcome of a step whose plan is a; one that is refused counts nothing
abbrev BalancedOutcome : System → Scope → Planned → Outcome → Type 0
BalancedOutcome s c a o = Balanced s o.system (tally_if o.refusal (plan_tally (taken_off s c) c a))

attempt_balanced : (s : System) → Valid s → (o : Step) → Balanced s (attempted s o).system (step_tally s o)
unfolding attempted permitted carried_out step_tally tally_if plan_tally no_tally pick
attempt_balanced s valid o =
    let c = scope_of o.action in
    let a = cut_by o.cut (plan_of s o.action) in
    let C = BalancedOutcome s c a in
    let to = is_one_of s.n c.actor.0 in
    let from = is_one_of s.n c.partner.0 in
    let D = λ (r : Result (Unit {0}) Refusal). C (if_allowed s r (carried_out s (taken_off s c) c.actor.0 a)) in
    by_pick D (to && from) _ _
    (λ both.
    let k = known s valid c.actor.0 (and_left to from both) in
    let j = known s valid c.partner.0 (and_right to from both) in
    let fits = step_fits s (sound s valid) o.action o.cut k j in
    let r = ready s valid c k j in
    by_pick D (variables_at s c.actor.0).crashed _ _
    (λ crashed. omega arith)
    (λ live.
    by_pick C (eqb a.refusal 0) _ _
    (λ plain.
    by_pick C (room_for (taken_off s c) c.actor.0 a.addressees) _ _
    (λ room.
    omega (
      arith,
      effected_waits s.n (sound s valid).high s (taken_off s c) refl r c.actor.0 (number s valid _ k) k.high live a (fits.calm ∙ live) room
          fits.inside,
      off_waits s valid c k j (message_found s o.action (cut_plain o.cut (plan_of s o.action) (eqb-true a.refusal 0 plain))),
      waiting_sized s.n s refl,
      waiting_sized s.n (effected (taken_off s c) c.actor.0 a) (effected_size s.n (taken_off s c) c.actor.0 a r.frame.size),
    ))
    (λ full. omega arith))
    (λ refusal. rw refusal (omega arith))))
    (λ stranger. omega arith)

-- ---- a step that is done
module _ {s t : System} {o : Step} (valid : Valid s) (r : Made s t o) where
  pub attempted_so : attempted s o ≡ done t
  attempted_so = sym (sound_stepped s o valid.sound) ∙ r.done

  -- what it counts
  pub made_tally : step_tally s o ≡ plan_tally (taken_off s (scope_of o.action)) (scope_of o.action) (cut_by o.cut (plan_of s o.action))
  unfolding step_tally tally_if pick
  made_tally = rw attempted_so

  pub step_balanced : Balanced s t (step_tally s o)
  step_balanced = subst (λ (a : Outcome). Balanced s a.system (step_tally s o)) attempted_so (attempt_balanced s valid o)
