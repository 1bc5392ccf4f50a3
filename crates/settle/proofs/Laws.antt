-- How the parts of a settling run are put together.
use Prim.Native.Nat.{ℕ, zero, suc, ◌+◌, ◌-◌, ◌≤◌, ◌<◌, max}
use mathlib.Core.Path.{◌≡◌, refl, sym, ◌∙◌, ap, subst}
use mathlib.Core.Bool.{Bool, true, false, ◌&&◌, ◌||◌, not}
use mathlib.Core.List.{List, []}
use native.Mathlib.Omega.{arith}
use native.Mathlib.Numerals.{add-one}
use borrow.Author.Tests.{eqb-true, eq-eqb, ne_eqb, lt-ltb, le-ltb}
use lib.Dec.{eqb}
use lib.ListN.{length}
use Rattle.std.specs.Prelude.{Ok, Err}
use Rattle.std.specs.Borrow.{MutBor}
use Rattle.view.specs.Logic.{pick, each_up_to}
use Rattle.view.proofs.Laws.{each_next, all_done, true_is_not_false}
use Rattle.tallies.specs.Tally.{plus, capped}
use Rattle.system.specs.Outcome.{Outcome}
use Rattle.system.specs.declared.refusal.Refusal.TheVariants.{Unsound}
use Rattle.sound.specs.Sound.{sound_system}
use Rattle.plan.specs.declared.Action.{Action}
use Rattle.plan.specs.declared.Step.{Step}
use Rattle.plan.specs.Cut.{whole}
use Rattle.step.specs.Step.{stepped}
use Rattle.events.specs.Counts.{step_tally}
use Rattle.image.specs.Image.{image_width, decoded, no_system, system_in}
use Rattle.engine.specs.Engine.{Attempts}
use Rattle.engine.proofs.Given.{no_system_lem}
use Rattle.settling.specs.declared.Ending.{Ending}
use Rattle.settling.specs.declared.Half.TheVariants.{Takes, Answers}
use Rattle.settling.specs.Settle.{Progress, passing, tried, round_done, unless_idle, rounds_done, none_done, nothing_to_do, ending_of, ended_with, outset, settled_from, settled, settled_tally}
use Rattle.settling.proofs.Idle.{looks_round}
use Rattle.settle.specs.declared.Run.{Run}
use Rattle.settle.specs.Settles.{settled_told, tally_in, Settles}
use Rattle.settle.specs.Advances.{progress_of, Advances, Begins}

-- ---- one after the other
pub no_advance : (x : Run) → Advances (λ p. p) x x
no_advance x =
    record { reached = λ l. refl; same_bytes = refl; same_budget = refl; same_size = refl; rises = omega arith; inside = omega arith; kept = λ e. refl }

pub advance_then : (f g : Progress → Progress) (x y z : Run) → Advances f x y → Advances g y z → Advances (λ p. g (f p)) x z
advance_then f g x y z one two =
    record {
      reached = λ l. rw (one.reached l) (two.reached (f (progress_of x l)).log);
      same_bytes = two.same_bytes ∙ one.same_bytes;
      same_budget = two.same_budget ∙ one.same_budget;
      same_size = two.same_size ∙ one.same_size;
      rises = omega (arith, one.rises, two.rises);
      inside = omega (arith, one.inside, two.inside, one.same_budget);
      kept = λ e. two.kept (omega (arith, one.rises, two.rises, e)) ∙ one.kept (omega (arith, one.rises, two.rises, e));
    }

-- the progress, written otherwise
pub advance_as : (f g : Progress → Progress) (x y : Run) → ((p : Progress) → f p ≡ g p) → Advances f x y → Advances g x y
advance_as f g x y same one =
    record {
      reached = λ l. subst (λ (p : Progress). p ≡ progress_of y p.log) (same (progress_of x l)) (one.reached l);
      same_bytes = one.same_bytes;
      same_budget = one.same_budget;
      same_size = one.same_size;
      rises = one.rises;
      inside = one.inside;
      kept = one.kept;
    }

-- what goes on from y, told by the budget and the size that it began with
pub as_begun : (f : ℕ → ℕ → Progress → Progress) (x y z : Run) → y.budget ≡ x.budget → y.n ≡ x.n → Advances (f y.budget y.n) y z → Advances (f x.budget x.n) y z
as_begun f x y z budget size one =
    subst (λ (k : ℕ). Advances (f k x.n) y z) budget (subst (λ (n : ℕ). Advances (f y.budget n) y z) size one)

-- one turn more of a loop
pub advance_next : (q : ℕ) (f : ℕ → Progress → Progress) (x y z : Run) → 1 ≤ q → Advances (each_up_to (q - 1) f) x y → Advances (f q) y z
    → Advances (each_up_to (q + 1 - 1) f) x z
advance_next q f x y z low one two =
    advance_as _ _ x z (λ p. each_next q f p low) (advance_then (each_up_to (q - 1) f) (f q) x y z one two)

-- the last turn of a loop, and after it
pub advance_last : (q n : ℕ) (f : ℕ → Progress → Progress) (x y z : Run) → 1 ≤ q → q ≡ n → Advances (each_up_to (q - 1) f) x y → Advances (f q) y z
    → Advances (each_up_to n f) x z
advance_last q n f x y z low end one two =
    let last : q + 1 - 1 ≡ n = omega arith in
    subst (λ (k : ℕ). Advances (each_up_to k f) x z) last (advance_next q f x y z low one two)

pub advance_done : (q n : ℕ) (f : ℕ → Progress → Progress) (x y : Run) → q ≤ n + 1 → n < q → Advances (each_up_to (q - 1) f) x y → Advances (each_up_to n f) x y
advance_done q n f x y high past one = subst (λ (k : ℕ). Advances (each_up_to k f) x y) (all_done q n high past) one

-- ---- one take or answer
pub spent : (o : Action) (x : Run) → x.budget ≤ x.steps → Advances (tried x.budget o) x x
unfolding tried pick
spent o x over =
    record {
      reached = λ l. rw (le-ltb x.steps x.budget over);
      same_bytes = refl;
      same_budget = refl;
      same_size = refl;
      rises = omega arith;
      inside = omega arith;
      kept = λ e. refl;
    }

module _ (o : Action) (x y : Run) (below : x.steps < x.budget) (k : ℕ) (a : Attempts (whole o) x.image.now k y.image.now)
    (bytes : y.image.ghost_name ≡ x.image.ghost_name) (budget : y.budget ≡ x.budget) (size : y.n ≡ x.n) where
  told : k ≡ (stepped (system_in x.image.now) (whole o)).refusal
  told = ap (λ (u : Outcome). u.refusal) (a.steps x.sound).outcome

  pub one_refused : (k ≡ 0 → ⊥) → y.steps ≡ x.steps → y.tally ≡ x.tally → Advances (tried x.budget o) x y
  unfolding tried passing pick
  one_refused some steps tally =
      record {
        reached = λ l. rw (a.gives.kept some, steps, tally, lt-ltb x.steps x.budget below, ← told, ne_eqb k 0 some) refl;
        same_bytes = bytes;
        same_budget = budget;
        same_size = size;
        rises = omega (arith, steps);
        inside = omega (arith, steps);
        kept = λ e. a.gives.kept some;
      }

  pub one_done : k ≡ 0 → y.steps ≡ x.steps + 1 → y.tally ≡ capped (plus x.tally (step_tally (system_in x.image.now) (whole o))) → Advances (tried x.budget o) x y
  unfolding tried passing pick
  one_done none steps tally =
      record {
        reached = λ l.
            rw (steps, tally, lt-ltb x.steps x.budget below, ← told, ← ap (λ (u : Outcome). u.system) (a.steps x.sound).outcome, eq-eqb k 0 none, add-one) refl;
        same_bytes = bytes;
        same_budget = budget;
        same_size = size;
        rises = omega (arith, steps);
        inside = omega (arith, steps);
        kept = λ e. absurd (omega (arith, e, steps));
      }

-- ---- at rest
-- where nothing is recorded no answer could be given
pub no_answer : (idle live : Bool) → idle ≡ (idle && not (live && false))
no_answer true true = refl
no_answer true false = refl
no_answer false live = refl

-- a process that has stopped answers nothing, and one that has not answers only a record of its view
pub no_reply : (idle crashed same : Bool) → (idle && (crashed || not same)) ≡ (idle && not (not crashed && same))
no_reply true true same = refl
no_reply true false same = refl
no_reply false crashed same = refl

-- ---- a copy
-- bytes that hold a sound system have the length of an image
pub sound_long : (b : List ℕ) → sound_system (system_in b) ≡ true → length b ≡ image_width
unfolding system_in pick
sound_long b sound = go (eqb (length b) image_width) refl sound
  where
    go : (t : Bool) → eqb (length b) image_width ≡ t → sound_system (pick t (decoded b) no_system) ≡ true → length b ≡ image_width
    go true e s = eqb-true (length b) image_width e
    go false e s = true_is_not_false (sym s ∙ no_system_lem)

-- ---- rounds
-- so far on the way from run x to the end of the rounds: run y, with rounds enough ahead
pub record Ahead (x y : Run) : Type 0 where
  pub left : ℕ
  pub some : 0 < left
  pub enough : x.budget < left + y.steps
  pub log : List Step → List Step
  pub goal : (l : List Step) → rounds_done (suc x.budget) x.budget x.n (progress_of x l) ≡ rounds_done left x.budget x.n (progress_of y (log l))
  pub bytes : y.image.ghost_name ≡ x.image.ghost_name
  pub budget : y.budget ≡ x.budget
  pub size : y.n ≡ x.n
  pub rises : x.steps ≤ y.steps
  pub inside : y.steps ≤ max x.steps x.budget
  pub kept : y.steps ≡ x.steps → y.image.now ≡ x.image.now

pub at_start : (x : Run) → Ahead x x
at_start x =
    record {
      left = suc x.budget;
      some = omega arith;
      enough = omega arith;
      log = λ l. l;
      goal = λ l. refl;
      bytes = refl;
      budget = refl;
      size = refl;
      rises = omega arith;
      inside = omega arith;
      kept = λ e. refl;
    }

-- one round more of at least one
unrolled : (k budget n : ℕ) → 0 < k
    → (j : ℕ) × (k ≡ suc j) × ((x : Progress) → rounds_done k budget n x ≡ unless_idle x.steps (rounds_done j budget n) (round_done budget n x))
unfolding rounds_done
unrolled zero budget n h = absurd (omega arith)
unrolled (suc j) budget n h = (j, refl, λ x. refl)

module _ (x y z : Run) (far : Ahead x y) (given : Advances (round_done y.budget y.n) y z) where
  round : Advances (round_done x.budget x.n) y z
  round = as_begun (λ budget n. round_done budget n) x y z far.budget far.size given

  -- the log after the round
  abbrev after : List Step → List Step
  after l = (round_done x.budget x.n (progress_of y (far.log l))).log

  pub round_idle : z.steps ≡ y.steps → Advances (rounds_done (suc x.budget) x.budget x.n) x z
  unfolding unless_idle pick
  round_idle e =
      let u = unrolled far.left x.budget x.n far.some in
      let ended : (l : List Step) → rounds_done (suc x.budget) x.budget x.n (progress_of x l) ≡ progress_of z (after l) =
      λ l. far.goal l ∙ u.2 (progress_of y (far.log l)) ∙ rw (round.reached (far.log l), eq-eqb z.steps y.steps e) refl in
      record {
        reached = λ l. ended l ∙ ap (λ (p : Progress). progress_of z p.log) (sym (ended l));
        same_bytes = round.same_bytes ∙ far.bytes;
        same_budget = round.same_budget ∙ far.budget;
        same_size = round.same_size ∙ far.size;
        rises = omega (arith, far.rises, round.rises);
        inside = omega (arith, far.inside, e);
        kept = λ none. round.kept e ∙ far.kept (sym e ∙ none);
      }

  pub round_more : (z.steps ≡ y.steps → ⊥) → Ahead x z
  unfolding unless_idle pick
  round_more some =
      let u = unrolled far.left x.budget x.n far.some in
      record {
        left = u.0;
        some = omega (arith, u.1, far.enough, round.rises, round.inside, far.budget, some);
        enough = omega (arith, u.1, far.enough, round.rises, some);
        log = after;
        goal = λ l. far.goal l ∙ u.2 (progress_of y (far.log l)) ∙ rw (round.reached (far.log l), ne_eqb z.steps y.steps some) refl;
        bytes = round.same_bytes ∙ far.bytes;
        budget = round.same_budget ∙ far.budget;
        size = round.same_size ∙ far.size;
        rises = omega (arith, far.rises, round.rises);
        inside = omega (arith, far.inside, round.inside, round.same_budget, far.budget);
        kept = λ none. absurd (some (omega (arith, far.rises, round.rises, none)));
      }

  -- the budget that is left falls
  pub round_less : (z.steps ≡ y.steps → ⊥) → z.budget - z.steps < y.budget - y.steps
  round_less some = omega (arith, given.rises, some, given.inside, given.same_budget)

-- ---- the whole run
module _ (budget : ℕ) (image : MutBor (List ℕ)) (x y : Run) (new : Begins budget image x) where
  at_outset : progress_of x [] ≡ outset (system_in x.image.now)
  at_outset = rw (new.steps, new.tally)

  sized : x.n ≡ (system_in x.image.now).n
  sized = new.size ∙ ap (λ (l : List ℕ). (system_in l).n) (sym new.bytes)

  run_reached : Advances (rounds_done (suc x.budget) x.budget x.n) x y
      → settled_from budget (system_in x.image.now) ≡ progress_of y (settled_from budget (system_in x.image.now)).log
  run_reached run =
      rw (← new.budget_is, ← at_outset)
      (subst (λ (n : ℕ). rounds_done (suc x.budget) x.budget n (progress_of x []) ≡ progress_of y (rounds_done (suc x.budget) x.budget n (progress_of x [])).log) sized (run.reached []))

  pub run_settles : (e : Ending) → Advances (rounds_done (suc x.budget) x.budget x.n) x y → e ≡ ending_of y.budget (progress_of y [])
      → (d : List ℕ) → d ≡ y.image.now → Settles budget image.now (Ok (record { steps = y.steps; ending = e; tally = y.tally })) d
  unfolding settled settled_tally settled_told tally_in ended_with ending_of pick
  run_settles e run ends d left =
      let reached = run_reached run in
      let ended : e ≡ ending_of budget (progress_of y []) = ends ∙ ap (λ (k : ℕ). ending_of k (progress_of y [])) (run.same_budget ∙ new.budget_is) in
      subst (λ (l : List ℕ). Settles budget image.now (Ok (record { steps = y.steps; ending = e; tally = y.tally })) l) (sym left)
      (subst (λ (l : List ℕ). Settles budget l (Ok (record { steps = y.steps; ending = e; tally = y.tally })) y.image.now) new.bytes
      (record {
        outcome = rw (x.sound, reached, ended) refl;
        tally = rw (x.sound, reached) refl;
        kept = λ none. run.kept (none ∙ sym new.steps);
        stays = λ h. y.sound;
      }))

  -- a round within a budget of at least one step tells whether there is one to do
  pub round_tells : 0 < budget → Advances (round_done x.budget x.n) x y → eqb y.steps 0 ≡ nothing_to_do (system_in image.now)
  unfolding nothing_to_do
  round_tells some run =
      subst (λ (l : List ℕ). eqb y.steps 0 ≡ (none_done (system_in l).n (system_in l) Takes && none_done (system_in l).n (system_in l) Answers)) new.bytes
      (told (none_done x.n (system_in x.image.now) Takes && none_done x.n (system_in x.image.now) Answers) refl
      ∙ ap (λ (k : ℕ). none_done k (system_in x.image.now) Takes && none_done k (system_in x.image.now) Answers) sized)
    where
      start : Progress
      start = progress_of x []

      is : y.steps ≡ (round_done budget x.n start).steps
      is = rw (← new.budget_is) (ap (λ (p : Progress). p.steps) (sym (run.reached [])))

      told : (t : Bool) → (none_done x.n (system_in x.image.now) Takes && none_done x.n (system_in x.image.now) Answers) ≡ t → eqb y.steps 0 ≡ t
      told true e = eq-eqb y.steps 0 (is ∙ ap (λ (p : Progress). p.steps) ((looks_round budget x.n).still start e) ∙ new.steps)
      told false e =
          ne_eqb y.steps 0
          (λ none. true_is_not_false (sym ((looks_round budget x.n).idle start (omega (arith, some, new.steps)) (sym is ∙ none ∙ sym new.steps)).0 ∙ e))

pub unsound_settles : (budget : ℕ) (b : List ℕ) → sound_system (system_in b) ≡ false → Settles budget b (Err Unsound) b
unfolding settled settled_tally settled_told tally_in pick
unsound_settles budget b off =
    record { outcome = rw off refl; tally = rw off refl; kept = λ e. refl; stays = λ on. true_is_not_false (sym on ∙ off) }
