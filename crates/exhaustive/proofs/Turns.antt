-- One turn: from what is true of the runs that follow it to what is true of those that begin with it.
use Prim.Native.Nat.{ℕ, suc}
use mathlib.Core.Path.{◌≡◌, refl, sym, ◌∙◌, ap, subst}
use mathlib.Core.Bool.{Bool, true, ◌&&◌}
use mathlib.Core.List.Memᴰ
use mathlib.Core.List.{List, [], ◌∷◌, map, Memᴰ}
use mathlib.Core.Logic.{⊎_elim}
use native.Mathlib.Omega.{arith}
use borrow.Author.Tests.{eqb-true, eq-eqb}
use lib.Dec.{eqb}
use lib.ListN.{length}
use Rattle.view.specs.Logic.{pick}
use Rattle.view.proofs.Laws.{by_pick, and_left, and_right, and_intro}
use Rattle.system.specs.declared.System.{System}
use Rattle.plan.specs.declared.Action.{Action}
use Rattle.plan.specs.Cut.{whole}
use Rattle.step.specs.Step.{stepped}
use Rattle.events.specs.Event.{happened, ran}
use Rattle.orders.specs.Orders.{Choice, pass, make, Run, begun_with, begun_by, by_moves, turned}
use Rattle.exhaustive.specs.Exhaustive.{may_choose, chosen, events_of, AllDiffer}
use Rattle.exhaustive.proofs.Lists.{all_pass, passes, none_is, told_apart, none_has_code, differ_append, differ_begun}
use Rattle.exhaustive.proofs.Moves.{code_of}

abbrev choices_of : Run → List Choice
choices_of r = r.choices

first_move : (o p : Action) (r q : Run) → (begun_with (make o) r).choices ≡ (begun_with (make p) q).choices → o ≡ p
first_move o p r q e = cc

-- the choices of a turn, and then those of the others
unfoldable pub is_run_by : (Action → Bool) → (List Choice → System → Bool) → List Choice → System → Bool
is_run_by is_move is_rest [] s = true
is_run_by is_move is_rest (c ∷ cs) s = may_choose is_move s c && is_rest cs (chosen s c)

-- a run of so many turns from system s, which ends where its steps lead
pub record Traced (is_run : List Choice → System → Bool) (depth : ℕ) (s : System) (r : Run) : Type 0 where
  pub deep : length r.choices ≡ depth
  pub runs_by : is_run r.choices s ≡ true
  pub end : r.end ≡ ran s (events_of r.choices)

-- one of these runs makes the choices
pub record Listed (rs : List Run) (cs : List Choice) : Type 0 where
  pub run : Run
  pub listed : Memᴰ run rs
  pub is : run.choices ≡ cs

module _ (next : System → List Run) (s : System) where
  -- ---- a run that begins with one of the moves
  pub record ByMove (os : List Action) (r : Run) : Type 0 where
    pub move : Action
    pub listed : Memᴰ move os
    pub done : (stepped s (whole move)).refusal ≡ 0
    pub rest : Run
    pub goes_on : Memᴰ rest (next (stepped s (whole move)).system)
    pub is : r ≡ begun_with (make move) rest

  one_move : (o : Action) (r : Run) → Memᴰ r (begun_by next o (stepped s (whole o))) → ByMove (o ∷ []) r
  unfolding begun_by
  one_move o r =
      by_pick (λ (l : List Run). Memᴰ r l → ByMove (o ∷ []) r) (eqb (stepped s (whole o)).refusal 0) _ _
      (λ e m.
      let f = Memᴰ.of_map (begun_with (make o)) (next (stepped s (whole o)).system) m in
      record {
        move = o;
        listed = Memᴰ.head refl;
        done = eqb-true (stepped s (whole o)).refusal 0 e;
        rest = f.0;
        goes_on = f.1;
        is = sym f.2;
      })
      (λ e m. absurd (Memᴰ.not-nil m))

  pub by_move : (os : List Action) (r : Run) → Memᴰ r (by_moves next s os) → ByMove os r
  unfolding by_moves
  by_move [] r m = absurd (Memᴰ.not-nil m)
  by_move (o ∷ os) r m =
      ⊎_elim
      (λ (here : Memᴰ r (begun_by next o (stepped s (whole o)))).
      let b = one_move o r here in
      record {
        move = b.move;
        listed = Memᴰ.append_left os b.listed;
        done = b.done;
        rest = b.rest;
        goes_on = b.goes_on;
        is = b.is;
      })
      (λ (there : Memᴰ r (by_moves next s os)).
      let b = by_move os r there in
      record {
        move = b.move;
        listed = Memᴰ.tail b.listed;
        done = b.done;
        rest = b.rest;
        goes_on = b.goes_on;
        is = b.is;
      })
      (Memᴰ.append_cases (begun_by next o (stepped s (whole o))) m)

  -- and the other way
  pub made_listed : (os : List Action) (o : Action) → Memᴰ o os → (stepped s (whole o)).refusal ≡ 0 → (r : Run)
      → Memᴰ r (next (stepped s (whole o)).system) → Memᴰ (begun_with (make o) r) (by_moves next s os)
  unfolding by_moves begun_by pick
  made_listed [] o m done r k = absurd (Memᴰ.not-nil m)
  made_listed (p ∷ os) o m done r k =
      ⊎_elim
      (λ (same : o ≡ p).
      Memᴰ.append_left {s = begun_by next p (stepped s (whole p))} (by_moves next s os)
      (rw (← same, eq-eqb (stepped s (whole o)).refusal 0 done) (Memᴰ.map (begun_with (make o)) k)))
      (λ (there : Memᴰ o os). Memᴰ.append_right (begun_by next p (stepped s (whole p))) (made_listed os o there done r k))
      (Memᴰ.cases_cons m)

  -- ---- no two runs by different moves are alike, nor one by a move and one by a pass
  one_differs : (o : Action) → ((t : System) → AllDiffer (next t)) → AllDiffer (begun_by next o (stepped s (whole o)))
  unfolding begun_by AllDiffer pick
  one_differs o each = grind (arith, differ_begun)

  moves_differ : (os : List Action) → told_apart code_of os ≡ true → ((t : System) → AllDiffer (next t)) → AllDiffer (by_moves next s os)
  unfolding by_moves told_apart AllDiffer
  moves_differ [] apart each = tt
  moves_differ (o ∷ os) apart each =
      differ_append (begun_by next o (stepped s (whole o))) (by_moves next s os)
      (one_differs o each)
      (moves_differ os (and_right (none_is code_of (code_of o) os) (told_apart code_of os) apart) each)
      (λ r q m k same.
      let a = one_move o r m in
      let b = by_move os q k in
      none_has_code code_of (code_of o) os (and_left (none_is code_of (code_of o) os) (told_apart code_of os) apart) b.listed
      (ap code_of (sym (Memᴰ.eq_of_singleton a.listed) ∙ first_move a.move b.move a.rest b.rest (sym (ap choices_of a.is) ∙ same ∙ ap choices_of b.is))))

  pub turn_differs : (os : List Action) → told_apart code_of os ≡ true → ((t : System) → AllDiffer (next t)) → AllDiffer (turned next s os)
  unfolding turned
  turn_differs os apart each = grind (arith, differ_append, differ_begun, moves_differ, Memᴰ.of_map, by_move)

  -- ---- each run that begins with the turn
  module _ (is_move : Action → Bool) (is_rest : List Choice → System → Bool) (d : ℕ) (os : List Action) where
    after_pass : (q : Run) → Traced is_rest d s q → Traced (is_run_by is_move is_rest) (suc d) s (begun_with pass q)
    unfolding is_run_by may_choose chosen events_of
    after_pass q t = record { deep = ap suc t.deep; runs_by = t.runs_by; end = t.end }

    after_move : (o : Action) → is_move o ≡ true → (stepped s (whole o)).refusal ≡ 0 → (q : Run) → Traced is_rest d (stepped s (whole o)).system q
        → Traced (is_run_by is_move is_rest) (suc d) s (begun_with (make o) q)
    unfolding is_run_by may_choose chosen events_of ran happened
    after_move o kind done q t = grind (arith, and_intro)

    pub turn_each : all_pass is_move os ≡ true → ((t : System) (r : Run) → Memᴰ r (next t) → Traced is_rest d t r)
        → (r : Run) → Memᴰ r (turned next s os) → Traced (is_run_by is_move is_rest) (suc d) s r
    unfolding turned
    turn_each kinds each r m =
        ⊎_elim
        (λ (passed : Memᴰ r (map (begun_with pass) (next s))).
        let a = Memᴰ.of_map (begun_with pass) (next s) passed in
        subst (Traced (is_run_by is_move is_rest) (suc d) s) a.2 (after_pass a.0 (each s a.0 a.1)))
        (λ (made : Memᴰ r (by_moves next s os)).
        let b = by_move os r made in
        subst (Traced (is_run_by is_move is_rest) (suc d) s) (sym b.is)
        (after_move b.move (passes is_move os kinds b.listed) b.done b.rest (each (stepped s (whole b.move)).system b.rest b.goes_on)))
        (Memᴰ.append_cases (map (begun_with pass) (next s)) m)

    -- ---- and every run is one of them
    pub turn_every : ((o : Action) → is_move o ≡ true → (stepped s (whole o)).refusal ≡ 0 → Memᴰ o os)
        → ((c : Choice) (cs : List Choice) → length cs ≡ d → is_rest cs (chosen s c) ≡ true → Listed (next (chosen s c)) cs)
        → (cs : List Choice) → length cs ≡ suc d → is_run_by is_move is_rest cs s ≡ true → Listed (turned next s os) cs
    unfolding turned is_run_by may_choose chosen
    turn_every tried every [] long run = absurd (omega (arith, long))
    turn_every tried every (pass ∷ cs) long run =
        let f = every pass cs (omega (arith, long)) run in
        record { run = begun_with pass f.run; listed = Memᴰ.append_left (by_moves next s os) (Memᴰ.map (begun_with pass) f.listed); is = ap (λ (l : List Choice). pass ∷ l) f.is }
    turn_every tried every (make o ∷ cs) long run =
        let may = is_move o && eqb (stepped s (whole o)).refusal 0 in
        let choice = and_left may (is_rest cs (stepped s (whole o)).system) run in
        let done = eqb-true (stepped s (whole o)).refusal 0 (and_right (is_move o) (eqb (stepped s (whole o)).refusal 0) choice) in
        let f = every (make o) cs (omega (arith, long)) (and_right may (is_rest cs (stepped s (whole o)).system) run) in
        record {
          run = begun_with (make o) f.run;
          listed = Memᴰ.append_right (map (begun_with pass) (next s)) (made_listed os o (tried o (and_left (is_move o) (eqb (stepped s (whole o)).refusal 0) choice) done) done f.run f.listed);
          is = ap (λ (l : List Choice). make o ∷ l) f.is;
        }
