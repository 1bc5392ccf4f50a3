-- "I tried them all": for 1 or 2 processes and every depth the walk has each run once, and no other; and each ends as every list of steps
-- does.
use Prim.Native.Nat.{ℕ, zero, suc, ◌≤◌}
use mathlib.Core.Path.{◌≡◌, refl, sym, ◌∙◌, ap}
use mathlib.Core.Bool.{Bool, true}
use mathlib.Core.List.Memᴰ
use mathlib.Core.List.{List, [], ◌∷◌, Memᴰ}
use native.Mathlib.Omega.{arith}
use lib.ListN.{length}
use Rattle.std.specs.Prelude.{Ok}
use Rattle.view.specs.Logic.{pick, is_one_of}
use Rattle.system.specs.declared.System.{System}
use Rattle.system.specs.Fresh.{fresh_system, fresh_of}
use Rattle.plan.specs.Cut.{whole}
use Rattle.events.specs.Event.{ran}
use Rattle.step.proofs.Outcomes.{size_kept}
use Rattle.agreement.specs.Demand.{start}
use Rattle.agreement.proofs.Theorem.{demand_3}
use Rattle.quiet.proofs.Theorem.{quiet_is_agreed}
use Rattle.orders.specs.Orders.{Choice, pass, make, Run, ended_at, link_moves, process_moves, link_turn, process_turn, run_counts_of, walked}
use Rattle.orders.proofs.Moves.{one_or_two}
use Rattle.exhaustive.specs.Exhaustive.{is_link_move, is_process_move, chosen, is_link_run, is_process_run, events_of, AllDiffer, TriedAll}
use Rattle.exhaustive.proofs.Beyond.{beyond_has, has_beyond}
use Rattle.exhaustive.proofs.Moves.{link_tried, process-tried, link_kinds, process_kinds, link_apart, process-apart}
use Rattle.exhaustive.proofs.Turns.{is_run_by, Traced, Listed, turn_differs, turn_each, turn_every}

-- ---- a run of the link, or of the processes, by its first turn
link_run : (cs : List Choice) (s : System) → is_link_run cs s ≡ is_run_by is_link_move is_process_run cs s
unfolding is_link_run is_run_by
link_run [] s = refl
link_run (c ∷ cs) s = refl

process_run : (cs : List Choice) (s : System) → is_process_run cs s ≡ is_run_by is_process_move is_link_run cs s
unfolding is_link_run is_run_by
process_run [] s = refl
process_run (c ∷ cs) s = refl

retraced : (f g : List Choice → System → Bool) → ((cs : List Choice) (s : System) → f cs s ≡ g cs s) → (d : ℕ) (s : System) (r : Run)
    → Traced g d s r → Traced f d s r
retraced f g same d s r t = grind arith

-- a run of no turn
no_turn : (f : List Choice → System → Bool) → ((s : System) → f [] s ≡ true) → (s : System) (r : Run) → Memᴰ r (ended_at s ∷ []) → Traced f 0 s r
unfolding events_of ran
no_turn f empty s r m = grind arith

no_choice : (s : System) (cs : List Choice) → length cs ≡ 0 → Listed (ended_at s ∷ []) cs
no_choice s [] long = record { run = ended_at s; listed = Memᴰ.head refl; is = refl }
no_choice s (c ∷ cs) long = absurd (omega (arith, long))

-- the number of processes stays
chosen_size : (s : System) (c : Choice) → (chosen s c).n ≡ s.n
unfolding chosen
chosen_size s pass = refl
chosen_size s (make o) = size_kept s (whole o)

module _ (n : ℕ) (few : is_one_of 2 n ≡ true) where
  -- ---- each listed run is a run
  pub record EachTraced (d : ℕ) : Type 0 where
    pub link : (s : System) (r : Run) → Memᴰ r (link_turn d n s) → Traced is_link_run d s r
    pub process : (s : System) (r : Run) → Memᴰ r (process_turn d n s) → Traced is_process_run d s r

  each_traced : (d : ℕ) → EachTraced d
  unfolding link_turn is_link_run
  each_traced zero = record { link = no_turn is_link_run (λ s. refl); process = no_turn is_process_run (λ s. refl) }
  each_traced (suc d) =
      let before = each_traced d in
      record {
        link = λ s r m.
            retraced is_link_run (is_run_by is_link_move is_process_run) link_run (suc d) s r
            (turn_each (λ t. process_turn d n t) s is_link_move is_process_run d (link_moves n) (link_kinds n few) before.process r m);
        process = λ s r m.
            retraced is_process_run (is_run_by is_process_move is_link_run) process_run (suc d) s r
            (turn_each (λ t. link_turn d n t) s is_process_move is_link_run d (process_moves n) (process_kinds n few) before.link r m);
      }

  -- ---- no two are alike
  all_differ : (d : ℕ) → ((s : System) → AllDiffer (link_turn d n s)) × ((s : System) → AllDiffer (process_turn d n s))
  unfolding link_turn AllDiffer
  all_differ zero = (λ s. (λ q m e. absurd (Memᴰ.not-nil m), tt), λ s. (λ q m e. absurd (Memᴰ.not-nil m), tt))
  all_differ (suc d) =
      let before = all_differ d in
      (λ s. turn_differs (λ t. process_turn d n t) s (link_moves n) (link_apart n few) before.1, λ s. turn_differs (λ t. link_turn d n t) s (process_moves n) (process-apart n few) before.0)

  -- ---- every run is listed
  pub record EveryListed (d : ℕ) : Type 0 where
    pub link : (s : System) → s.n ≡ n → (cs : List Choice) → length cs ≡ d → is_link_run cs s ≡ true → Listed (link_turn d n s) cs
    pub process : (s : System) → s.n ≡ n → (cs : List Choice) → length cs ≡ d → is_process_run cs s ≡ true → Listed (process_turn d n s) cs

  every_listed : (d : ℕ) → EveryListed d
  unfolding link_turn
  every_listed zero = grind (arith, no_choice)
  every_listed (suc d) =
      let before = every_listed d in
      record {
        link = λ s size cs long run.
            turn_every (λ t. process_turn d n t) s is_link_move is_process_run d (link_moves n)
            (λ o kind done. rw size at (link_tried s (rw size few) o kind done))
            (λ c rest deep goes. before.process (chosen s c) (chosen_size s c ∙ size) rest deep goes)
            cs long (sym (link_run cs s) ∙ run);
        process = λ s size cs long run.
            turn_every (λ t. link_turn d n t) s is_process_move is_link_run d (process_moves n)
            (λ o kind done. rw size at (process-tried s o kind done))
            (λ c rest deep goes. before.link (chosen s c) (chosen_size s c ∙ size) rest deep goes)
            cs long (sym (process_run cs s) ∙ run);
      }

  -- ---- from a fresh system
  fresh_start : start n ≡ fresh_system n
  unfolding fresh_of pick
  fresh_start = one_or_two (λ m. start m ≡ fresh_system m) n few refl refl

  size_of_fresh : (fresh_system n).n ≡ n
  unfolding fresh_system
  size_of_fresh = refl

  not_refused_so : (d : ℕ) → d ≤ 8 → walked n d ≡ Ok (run_counts_of n (link_turn d n (fresh_system n)))
  unfolding walked pick
  not_refused_so d h = grind arith

  pub tried_them_all : (d : ℕ) → TriedAll n d
  tried_them_all d =
      record {
        counts = not_refused_so d;
        entered_has = beyond_has n;
        has_entered = has_beyond n;
        each = λ r m.
            let t = (each_traced d).link (fresh_system n) r m in
            record {
              deep = t.deep;
              runs_by = ap (is_link_run r.choices) fresh_start ∙ t.runs_by;
              end = t.end ∙ ap (λ (s : System). ran s (events_of r.choices)) (sym fresh_start);
              agreed = demand_3 n (events_of r.choices);
              final = quiet_is_agreed n (events_of r.choices);
            };
        every = λ cs long run.
            let f = (every_listed d).link (fresh_system n) size_of_fresh cs long (sym (ap (is_link_run cs) fresh_start) ∙ run) in
            (f.run, f.listed, f.is);
        once = (all_differ d).0 (fresh_system n);
      }
