-- A settling run is its own steps, takes and answers that are all done; and it ends where there is nothing more to do.
use Prim.Native.Nat.{ℕ, zero, suc, ◌+◌, ◌<◌}
use mathlib.Core.Path.{◌≡◌, refl, sym, ◌∙◌, ap, subst}
use mathlib.Core.Bool.{Bool, true, false, ◌&&◌, ◌||◌}
use mathlib.Core.List.{List, [], ◌∷◌, ◌++◌, map, append_assoc, append-nil}
use native.Mathlib.Omega.{arith}
use borrow.Author.Tests.{eqb-true, ltb-true}
use lib.Dec.{eqb, ltb}
use lib.ListN.{length, length-append}
use Rattle.std.proofs.lemmas.List.{map-append}
use Rattle.view.specs.Logic.{pick}
use Rattle.view.proofs.Laws.{by_pick, by_test, each_keeps}
use Rattle.tallies.specs.declared.Tally.{Tally}
use Rattle.tallies.specs.Tally.{no_tally, plus, capped}
use Rattle.tallies.proofs.Laws.{kept_on_the_way, kept_twice, none_kept}
use Rattle.system.specs.declared.System.{System}
use Rattle.sound.specs.Sound.{sound_system}
use Rattle.plan.specs.declared.Step.{Step}
use Rattle.plan.specs.Cut.{whole}
use Rattle.step.specs.Step.{stepped}
use Rattle.events.specs.Counts.{step_tally, move_tally, tally_then}
use Rattle.step.proofs.Outcomes.{size_kept}
use Rattle.events.specs.Event.{Move, made, moved, moves_in, grown, Leads}
use Rattle.events.proofs.Moves.{leads_on, grown_on, own_moves}
use Rattle.settling.specs.declared.Half.{Half}
use Rattle.settling.specs.declared.Half.TheVariants.{Takes, Answers}
use Rattle.settling.specs.declared.Ending.TheVariants.{Held, Budget}
use Rattle.settling.specs.Settle.{Settled, Progress, passing, tried, move_of, tried_with, tried_at, half_done, round_done, unless_idle, rounds_done, none_done, nothing_to_do, ending_of, ended_with, outset, settled_from, settled, settled_tally, settled_log}
use Rattle.settling.specs.Steps.{take_or_answer, TakesOrAnswers, settled_events, Consists, IsItsSteps, RunsTo, Ends}
use Rattle.settling.proofs.Idle.{looks_round, rounds_end}

-- ---- lists of takes and answers, one after the other
takes-append : (os ps : List Step) → TakesOrAnswers os → TakesOrAnswers ps → TakesOrAnswers (os ++ ps)
takes-append [] ps a b = b
takes-append (o ∷ os) ps a b = (a.0, takes-append os ps a.1 b)

kept_grown : (a b : Tally) (s : System) (ms : List Move) → capped a ≡ capped b → capped (grown tally_then a s ms) ≡ capped (grown tally_then b s ms)
unfolding grown tally_then
kept_grown a b s [] e = e
kept_grown a b s (m ∷ ms) e =
    kept_grown (plus a (move_tally s m)) (plus b (move_tally s m)) (moved s m).system ms
    (sym (kept_on_the_way a _) ∙ ap (λ (t : Tally). capped (plus t (move_tally s m))) e ∙ kept_on_the_way b _)

-- from one progress to another: the steps that are new in the log lead there, and the tally is theirs
pub record Way (x y : Progress) : Type 0 where
  pub new : List Step
  pub log : y.log ≡ x.log ++ new
  pub each : TakesOrAnswers new
  pub leads : Leads x.system (map made new) y.system
  pub count : x.steps + length new ≡ y.steps
  pub size : y.system.n ≡ x.system.n
  pub tally : capped y.tally ≡ capped (grown tally_then x.tally x.system (map made new))
  pub keeps : capped x.tally ≡ x.tally → capped y.tally ≡ y.tally

nowhere : (x : Progress) → Way x x
unfolding grown
nowhere x =
    record { new = []; log = sym (append-nil x.log); each = tt; leads = refl; count = omega arith; size = refl; tally = refl; keeps = λ e. e }

pub onward : (x y z : Progress) → Way x y → Way y z → Way x z
onward x y z a b =
    record {
      new = a.new ++ b.new;
      log = b.log ∙ ap (λ (l : List Step). l ++ b.new) a.log ∙ append_assoc x.log a.new b.new;
      each = takes-append a.new b.new a.each b.each;
      leads = rw (map-append made a.new b.new) (leads_on x.system y.system z.system (map made a.new) (map made b.new) a.leads b.leads);
      count = omega (arith, length-append a.new b.new, a.count, b.count);
      size = b.size ∙ a.size;
      tally =
          b.tally
          ∙ kept_grown y.tally _ y.system (map made b.new) a.tally
          ∙ ap capped (sym (grown_on tally_then x.tally x.system y.system (map made a.new) (map made b.new) a.leads))
          ∙ ap (λ (ms : List Move). capped (grown tally_then x.tally x.system ms)) (sym (map-append made a.new b.new));
      keeps = λ e. b.keeps (a.keeps e);
    }

is_move : (h : Half) (p q : ℕ) → take_or_answer (move_of h p q) ≡ 1
unfolding take_or_answer move_of
is_move Takes p q = refl
is_move Answers p q = refl

tried_leads : (budget : ℕ) (h : Half) (p q : ℕ) (x : Progress) → Way x (tried_with budget h p q x)
unfolding tried_with tried passing moved grown tally_then move_tally
tried_leads budget h p q x =
    let o = whole (move_of h p q) in
    let a = stepped x.system o in
    by_pick (Way x) (ltb x.steps budget) _ _
    (λ below.
    by_pick (Way x) (eqb a.refusal 0) _ _
    (λ e.
    record {
      new = o ∷ [];
      log = refl;
      each = (is_move h p q, tt);
      leads = (eqb-true a.refusal 0 e, refl);
      count = omega arith;
      size = size_kept x.system o;
      tally = kept_twice (plus x.tally (step_tally x.system o));
      keeps = λ k. kept_twice (plus x.tally (step_tally x.system o));
    })
    (λ e. nowhere x))
    (λ e. nowhere x)

half_leads : (budget n : ℕ) (h : Half) (x : Progress) → Way x (half_done budget h n x)
unfolding half_done tried_at
half_leads budget n h x =
    each_keeps (Way x) n (tried_at budget h n)
    (λ p l u y k. each_keeps (Way x) n (tried_with budget h p) (λ q m v z i. onward x z _ i (tried_leads budget h p q z)) y k) x (nowhere x)

pub round_leads : (budget n : ℕ) (x : Progress) → Way x (round_done budget n x)
unfolding round_done
round_leads budget n x =
    onward x (half_done budget Takes n x) _ (half_leads budget n Takes x) (half_leads budget n Answers (half_done budget Takes n x))

pub rounds_lead : (k budget n : ℕ) (x : Progress) → Way x (rounds_done k budget n x)
unfolding rounds_done unless_idle
rounds_lead zero budget n x = nowhere x
rounds_lead (suc k) budget n x =
    let y = round_done budget n x in
    let one = round_leads budget n x in
    by_pick (Way x) (eqb y.steps x.steps) _ _ (λ e. one) (λ e. onward x y _ one (rounds_lead k budget n y))

-- ---- the whole run
pub sound_settled : (budget : ℕ) (s : System) → sound_system s ≡ true → settled budget s ≡ ended_with budget (settled_from budget s)
unfolding settled pick
sound_settled budget s e = rw e

pub is_its_steps : (budget : ℕ) (s : System) → IsItsSteps budget s
unfolding settled settled_tally settled_log ended_with grown pick
is_its_steps budget s = by_test (sound_system s) (λ e. subst By (sym e) settling) (λ e. subst By (sym e) refusing)
  where
    end : Progress
    end = settled_from budget s

    By : Bool → Type 0
    By sound =
        Consists s (pick sound end.log []) (pick sound (ended_with budget end) (record { refusal = 1; steps = 0; ending = Held; system = s }))
        (pick sound end.tally no_tally)

    way : Way (outset s) end
    way = rounds_lead (suc budget) budget s.n (outset s)

    settling : By true
    settling =
        subst (λ (os : List Step). Consists s os (ended_with budget end) end.tally) (sym way.log)
        (record {
          each = way.each;
          leads = way.leads;
          count = omega (arith, way.count);
          tally = sym (way.keeps none_kept) ∙ way.tally;
        })

    refusing : By false
    refusing = record { each = tt; leads = refl; count = refl; tally = sym none_kept }

pub runs_to : (budget : ℕ) (s : System) → RunsTo budget s
runs_to budget s = (own_moves s (settled budget s).system (settled_log budget s) (is_its_steps budget s).leads).1

-- and its moves as a list of events are its own steps
pub settled_moves : (budget : ℕ) (s : System) → moves_in s (settled_events budget s) ≡ map made (settled_log budget s)
settled_moves budget s = (own_moves s (settled budget s).system (settled_log budget s) (is_its_steps budget s).leads).0

-- ---- the ending
-- below the budget, or with nothing to do, it is not budget
pub not_budget : (budget : ℕ) (y : Progress) → (ltb y.steps budget || nothing_to_do y.system) ≡ true → ending_of budget y ≡ Budget → ⊥
unfolding ending_of pick
not_budget budget y e is = grind arith

-- and else it is
is_budget : (budget : ℕ) (y : Progress) → ltb y.steps budget ≡ false → nothing_to_do y.system ≡ false → ending_of budget y ≡ Budget
unfolding ending_of pick
is_budget budget y over more = rw (over, more)

-- a round that does nothing below the budget leaves nothing to do
pub idle_none : (budget n : ℕ) (y : Progress) → y.system.n ≡ n → y.steps < budget → (round_done budget n y).steps ≡ y.steps → nothing_to_do y.system ≡ true
unfolding nothing_to_do
idle_none budget n y size below same =
    subst (λ (k : ℕ). (none_done k y.system Takes && none_done k y.system Answers) ≡ true) (sym size) ((looks_round budget n).idle y below same).0

pub ends : (budget : ℕ) (s : System) → Ends budget s
unfolding ended_with ending_of
ends budget s sound not-said =
    let y = settled_from budget s in
    let is = sound_settled budget s sound in
    subst (λ (o : Settled). nothing_to_do o.system ≡ true) (sym is)
    (by_test (ltb y.steps budget)
    (λ below.
    idle_none budget s.n y (rounds_lead (suc budget) budget s.n (outset s)).size (ltb-true y.steps budget below)
    (rounds_end (suc budget) budget s.n (outset s) (omega arith) (omega arith)))
    (λ over.
    by_test (nothing_to_do y.system) (λ none. none) (λ more. absurd (not-said (ap (λ (o : Settled). o.ending) is ∙ is_budget budget y over more)))))
