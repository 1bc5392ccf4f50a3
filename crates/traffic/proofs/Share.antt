-- For every list of events from a fresh system: no more proposals are committed than are made. A proposal that may still be committed is
-- open, and each that is committed was.
use Prim.Native.Nat.{ℕ, ◌+◌, ◌≤◌}
use mathlib.Core.Path.{◌≡◌, refl, sym, ◌∙◌, ap, subst}
use mathlib.Core.List.{List}
use native.Mathlib.Omega.{arith}
use borrow.Author.Tests.{eq-eqb, ne_eqb}
use lib.Dec.{eqb}
use Rattle.view.specs.Logic.{pick, sum_up_to, is_one_of}
use Rattle.view.proofs.Laws.{by_pick, by_number}
use Rattle.view.proofs.Sums.{sum-changed, sum_at_most}
use Rattle.tallies.specs.declared.Tally.{Tally}
use Rattle.tallies.specs.Tally.{no_tally, plus}
use Rattle.system.specs.declared.Process.{Process}
use Rattle.system.specs.declared.Variables.{Variables}
use Rattle.system.specs.declared.System.{System}
use Rattle.system.specs.Outcome.{Outcome, done}
use Rattle.system.specs.Fresh.{fresh_variables, fresh_system, fresh_of}
use Rattle.plan.specs.declared.Step.{Step}
use Rattle.plan.specs.Scope.{scope_of}
use Rattle.plan.specs.Cut.{cut_by}
use Rattle.step.specs.Step.{plan_of, taken_off, permitted, attempted}
use Rattle.events.specs.Counts.{plan_tally, step_tally, still_waiting, move_tally, tally_then, events_tally, tally_of, fresh_tally}
use Rattle.step.proofs.Soundness.{Valid}
use Rattle.step.proofs.Cases.{Known, afterwards, outline}
use Rattle.step.proofs.TakenOff.{taken_variables}
use Rattle.step.proofs.Carried.{sound, carried}
use Rattle.step.proofs.Beginning.{fresh_variables_lem}
use Rattle.events.specs.Event.{Event, ran}
use Rattle.events.proofs.Runs.{Made, any_run, start_shape}
use Rattle.traffic.specs.Traffic.{proposal_of, ShareAtMostOne}
use Rattle.traffic.proofs.Plans.{step_fits}
use Rattle.traffic.proofs.Steps.{attempted_so, made_tally}
use Rattle.traffic.proofs.Theorem.{step_small}
use Rattle.traffic.proofs.Own.{is_below, is_below_lem, by_below, Spent, transition_spent}
use Rattle.traffic.proofs.Commits.{Committing, step_committing}
use Rattle.traffic.proofs.Once.{committed_spent, fresh_spent}

-- ---- open proposals
-- each process sends no Commits any more at this PropOut of its own, nor at an earlier one
abbrev AllSpent : System → (ℕ → ℕ) → Type 0
AllSpent s last = (q : ℕ) → 1 ≤ q → q ≤ 8 → Spent s q (last q)

-- the processes whose PropOut is past that
abbrev open_in : System → (ℕ → ℕ) → ℕ
open_in s last = sum_up_to 8 (λ q. is_below (last q) (proposal_of s q))

-- a rise makes at most one more
below_through : (a b c : ℕ) → is_below a c ≤ is_below a b + is_below b c
below_through a b c =
    by_below (λ k. k ≤ is_below a b + is_below b c) a c
    (λ h.
    by_below (λ k. 1 ≤ k + is_below b c) a b
    (λ l. omega arith)
    (λ l. omega (arith, is_below_lem b c (omega arith))))
    (λ h. omega arith)

-- ---- a proposal is a rise of PropOut
abbrev actor_of : Step → ℕ
actor_of o = (scope_of o.action).actor.0

rise_counted : {s t : System} {o : Step} → Valid s → Made s t o
    → (step_tally s o).proposals ≡ is_below (proposal_of s (actor_of o)) (proposal_of t (actor_of o))
unfolding plan_tally is_below attempted afterwards
rise_counted {s} {t} {o} valid r =
    let c = scope_of o.action in
    let a = cut_by o.cut (plan_of s o.action) in
    let so : permitted s c a ≡ done t = attempted_so valid r in
    let k = carried s valid c a (ap (λ (x : Outcome). x.refusal) so) in
    let fits = step_fits s (sound s valid) o.action o.cut k.acts.known k.partner in
    let before : proposal_of (taken_off s c) c.actor.0 ≡ proposal_of s c.actor.0 =
    ap (λ (y : Variables). y.propout.0) (taken_variables s c c.actor.0) in
    let after : proposal_of t c.actor.0 ≡ a.change.variables.propout.0 =
    ap (λ (x : Outcome). proposal_of x.system c.actor.0) (sym so) ∙ ap (λ (y : Process). y.variables.propout.0) (k.effect fits.calm).effect.actor in
    rw (made_tally valid r, before, after)

-- ---- a run
-- of the proposals counted, some are committed, and others open
record Carries (s : System) (a : Tally) : Type 0 where
  last : ℕ → ℕ
  spent : AllSpent s last
  pays : a.committed + open_in s last ≤ a.proposals

module _ {s t : System} {a : Tally} {o : Step} (valid : Valid s) (r : Made s t o) (k : Carries s a) where
  acts : Known s (actor_of o)
  acts = (outline r.change).acts.known

  -- the others have proposed nothing
  others_stay : (q : ℕ) → (q ≡ actor_of o → ⊥) → proposal_of t q ≡ proposal_of s q
  others_stay q h = ap (λ (y : Process). y.variables.propout.0) ((outline r.change).effect.others q h)

  -- no Commit is sent
  carries_on : (step_tally s o).committed ≡ 0 → Carries t (plus a (step_tally s o))
  unfolding plus
  carries_on none =
      let p = actor_of o in
      record {
        last = k.last;
        spent = λ q low high. transition_spent o.action r.change q (k.last q) (k.spent q low high);
        pays = omega (
          arith,
          none,
          k.pays,
          rise_counted valid r,
          below_through (k.last p) (proposal_of s p) (proposal_of t p),
          sum-changed 8 (λ q. is_below (k.last q) (proposal_of t q)) (λ q. is_below (k.last q) (proposal_of s q)) p acts.low acts.eight
              (λ q h. ap (is_below (k.last q)) (others_stay q h)),
        );
      }

  -- Commits are sent
  carries_commit : (step_tally s o).committed ≤ 1 → Committing s t (actor_of o) → Carries t (plus a (step_tally s o))
  unfolding plus pick
  carries_commit few c =
      let p = actor_of o in
      let both = committed_spent c (k.last p) (k.spent p acts.low acts.eight) in
      let now : ℕ → ℕ = λ q. pick (eqb q p) (proposal_of s p) (k.last q) in
      let here : now p ≡ proposal_of s p = rw (eq-eqb p p refl) in
      let there : (q : ℕ) → (q ≡ p → ⊥) → now q ≡ k.last q = λ q h. rw (ne_eqb q p h) in
      record {
        last = now;
        spent = λ q low high.
            by_number q p
            (λ e. subst (λ (j : ℕ). Spent t j (now j)) (sym e) (subst (Spent t p) (sym here) both.1))
            (λ h. subst (Spent t q) (sym (there q h)) (transition_spent o.action r.change q (k.last q) (k.spent q low high)));
        pays = omega (
          arith,
          few,
          k.pays,
          rise_counted valid r,
          is_below_lem (k.last p) (proposal_of s p) both.0,
          ap (λ (j : ℕ). is_below j (proposal_of t p)) here,
          sum-changed 8 (λ q. is_below (now q) (proposal_of t q)) (λ q. is_below (k.last q) (proposal_of s q)) p acts.low acts.eight
              (λ q h. ap (λ (j : ℕ). is_below j (proposal_of t q)) (there q h) ∙ ap (is_below (k.last q)) (others_stay q h)),
        );
      }

  step_carries : Carries t (plus a (step_tally s o))
  step_carries =
      let few : (step_tally s o).committed ≤ 1 = omega (arith, (step_small s o).committed) in
      by_number (step_tally s o).committed 1 (λ e. carries_commit few (step_committing valid r e)) (λ h. carries_on (omega (arith, few, h)))

-- at the start nothing is open
fresh_carries : (n : ℕ) → Carries (fresh_system n) no_tally
unfolding fresh_variables no_tally
fresh_carries n =
    record {
      last = λ q. 1;
      spent = fresh_spent n;
      pays = omega (
        arith,
        sum_at_most 8 (λ q. is_below 1 (proposal_of (fresh_system n) q)) 0
            (λ q low high.
            subst (λ (x : Variables). is_below 1 x.propout.0 ≤ 0) (sym (fresh_variables_lem n q low high))
            (by_below (λ k. k ≤ 0) 1 1 (λ h. absurd (omega arith)) (λ h. omega arith))),
      );
    }

start_carries : (n : ℕ) → Carries (fresh_of n).system no_tally
unfolding fresh_of
start_carries n = by_pick (λ (a : Outcome). Carries a.system no_tally) (is_one_of 8 n) _ _ (λ e. fresh_carries n) (λ e. fresh_carries 0)

pub share_at_most_one : (n : ℕ) (es : List Event) → ShareAtMostOne n es
unfolding fresh_tally tally_of events_tally tally_then move_tally plus still_waiting
share_at_most_one n es =
    let s = (fresh_of n).system in
    let all : Carries (ran s es) (events_tally s es) =
    any_run tally_then Carries (λ s t a o v w r k. step_carries v r k) s no_tally es (start_shape n) (start_carries n) in
    omega (arith, all.pays)
