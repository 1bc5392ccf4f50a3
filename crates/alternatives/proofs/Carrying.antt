-- What carrying a plan out gives, by the code's tests: a step that sends nothing, one that sends, and a stop.
use Prim.Native.Nat.{ℕ}
use mathlib.Core.Path.{◌≡◌, refl, sym, ◌∙◌, ap}
use mathlib.Core.Bool.{true, false}
use mathlib.Core.List.{List}
use native.Mathlib.Omega.{arith}
use borrow.Author.Tests.{le-ltb}
use lib.Dec.{eqb}
use Rattle.std.specs.Prelude.{Result, Ok, Err}
use Rattle.std.specs.Result.{IsErrAnd}
use Rattle.std.proofs.lemmas.Result.{err_from_is_err_and}
use Rattle.view.specs.Logic.{pick, put}
use Rattle.view.proofs.Laws.{by_test, each_same, all_intro, put_at}
use Rattle.view.proofs.Sets.{not_named, count_none}
use Rattle.channel.specs.declared.Message.{Message}
use Rattle.system.specs.declared.Process.{Process}
use Rattle.system.specs.declared.System.{System}
use Rattle.system.specs.declared.Variables.{Variables}
use Rattle.system.specs.declared.refusal.Refusal.{Refusal}
use Rattle.system.specs.declared.refusal.Refusal.TheVariants.{Unsound, Stranger, Crashed, OddView, NothingThere, HistoryFull, ChannelFull, BadLine, LongSheet, NoRecord, OtherView, CutTooLate, EarlyTrust, TooDeep}
use Rattle.system.specs.Refusal.{number, answer_number}
use Rattle.system.specs.Outcome.{Outcome, done, refused}
use Rattle.system.specs.Process.{with_entry}
use Rattle.system.specs.System.{no_process, process_at, variables_at, with_process, with_trust, sent_if_named, broadcasted, takes_if_named, room_for}
use Rattle.plan.specs.declared.Change.{Change}
use Rattle.plan.specs.declared.Cut.{Cut}
use Rattle.plan.specs.declared.Cut.TheVariants.{Whole, After}
use Rattle.plan.specs.declared.Reach.{Reach}
use Rattle.plan.specs.Plan.{Planned, assigning, sending, quietly, refusing, doubting, crash_plan, changed}
use Rattle.plan.specs.Cut.{reach_of, only_whole, within_reach, cut_by}
use Rattle.plan.proofs.Cuts.{cut_reaches}
use Rattle.step.specs.Step.{suspected_if_named, doubted, changed_at, crashed_at, crashed_if, effected, carried_out}
use Rattle.image.specs.Image.{system_in, Becomes}
use Rattle.alternatives.specs.Gives.{Gives, with_room}

-- ---- nobody is named
pub no_doubts : (s : System) (p : ℕ) → doubted s p 0 ≡ s
unfolding doubted suspected_if_named with_trust pick
no_doubts s p = ap (with_trust s) (each_same 8 (suspected_if_named s p 0) s.trust (λ k. rw (not_named k)))

no_broadcast : (s : System) (p : ℕ) (m : Message) → broadcasted s p 0 m ≡ s
unfolding broadcasted sent_if_named pick
no_broadcast s p m = each_same 8 (sent_if_named p 0 m) s (λ k. rw (not_named k))

room_enough : (s : System) (p : ℕ) → room_for s p 0 ≡ true
unfolding room_for takes_if_named
room_enough s p = all_intro 8 (takes_if_named s p 0) (λ k l h. rw (not_named k))

-- ---- a refusal
pub some_number : (r : Refusal) → eqb (number r) 0 ≡ false
some_number Unsound = refl
some_number Stranger = refl
some_number Crashed = refl
some_number OddView = refl
some_number NothingThere = refl
some_number HistoryFull = refl
some_number ChannelFull = refl
some_number BadLine = refl
some_number LongSheet = refl
some_number NoRecord = refl
some_number OtherView = refl
some_number CutTooLate = refl
some_number EarlyTrust = refl
some_number TooDeep = refl

cut_refusing : (cut : Cut) (r : Refusal) (x : Variables) → cut_by cut (refusing (number r) x) ≡ refusing (number r) x
unfolding cut_by reach_of pick
cut_refusing Whole r x = refl
cut_refusing (After j) r x = rw (some_number r)

module _ (b : List ℕ) (o : Outcome) where
  pub refused_gives : (r : Refusal) → o ≡ refused (number r) (system_in b) → Gives o b (number r) b
  refused_gives r e = record { outcome = sym e; kept = λ h. refl; other_length = λ h. refl }

  -- the same, of what a `?` answers
  pub answer_gives : (x : Result (Unit {0}) Refusal) (r : Refusal) → IsErrAnd x (λ y. y ≡ r) → o ≡ refused (number r) (system_in b) → Gives o b (answer_number x) b
  answer_gives x r passed e = let y = err_from_is_err_and x passed in rw (y.1, y.2) (refused_gives r e)

  pub done_gives : (d : List ℕ) (t : System) → o ≡ done t → Becomes t b d → Gives o b 0 d
  done_gives d t e f = record { outcome = sym (e ∙ ap done (sym f.system)); kept = λ h. absurd (h refl); other_length = f.kept }

module _ (b : List ℕ) (t : System) (p : ℕ) where
  refusing_out : (r : Refusal) (x : Variables) → carried_out (system_in b) t p (refusing (number r) x) ≡ refused (number r) (system_in b)
  unfolding carried_out pick
  refusing_out r x = rw (some_number r)

  pub refusing_gives : (cut : Cut) (x : Variables) (r : Refusal) → Gives (carried_out (system_in b) t p (cut_by cut (refusing (number r) x))) b (number r) b
  refusing_gives cut x r = refused_gives b _ r (ap (carried_out (system_in b) t p) (cut_refusing cut r x) ∙ refusing_out r x)

  -- ---- a step that sends
  sent_as : Planned → Result Reach Refusal → Outcome
  sent_as a (Err r) = refused (number r) (system_in b)
  sent_as a (Ok x) = done (crashed_if x.stops (broadcasted (changed_at (doubted t p a.suspects) p a.change) p x.addressees a.message) p)

  reached_out : (a : Planned) (x : Result Reach Refusal) → carried_out (system_in b) t p (within_reach a x) ≡ sent_as a (with_room t p x)
  unfolding carried_out effected sent_as with_room pick
  reached_out a (Err r) = refusing_out r a.change.variables
  reached_out a (Ok x) = by_test (room_for t p x.addressees) (λ on. rw on) (λ off. rw off)

  module _ (cut : Cut) (suspects : ℕ) (c : Change) (to : ℕ) (m : Message) where
    abbrev sends : Planned
    sends = doubting suspects (sending c to m)

    sending_out : carried_out (system_in b) t p (cut_by cut sends) ≡ sent_as sends (with_room t p (reach_of cut to))
    sending_out = ap (carried_out (system_in b) t p) (cut_reaches cut sends refl refl) ∙ reached_out sends (reach_of cut to)

    pub not_sent : (x : Result (Unit {0}) Refusal) (r : Refusal) → IsErrAnd x (λ y. y ≡ r) → Err r ≡ with_room t p (reach_of cut to)
        → Gives (carried_out (system_in b) t p (cut_by cut sends)) b (answer_number x) b
    unfolding sent_as
    not_sent x r passed told = answer_gives b _ x r passed (rw (← told) at sending_out)

    pub sent_done : (x : Reach) (d : List ℕ) → Ok x ≡ with_room t p (reach_of cut to)
        → Becomes (crashed_if x.stops (broadcasted (changed_at (doubted t p suspects) p c) p x.addressees m) p) b d
        → Gives (carried_out (system_in b) t p (cut_by cut sends)) b 0 d
    unfolding sent_as
    sent_done x d told goes = done_gives b _ d _ (rw (← told) at sending_out) goes

  -- ---- a step that sends nothing: any cut is too late
  quiet_as : ℕ → Change → Result (Unit {0}) Refusal → Outcome
  quiet_as suspects c (Err r) = refused (number r) (system_in b)
  quiet_as suspects c (Ok x) = done (changed_at (doubted t p suspects) p c)

  quiet_out : (cut : Cut) (suspects : ℕ) (c : Change) → carried_out (system_in b) t p (cut_by cut (doubting suspects (quietly c))) ≡ quiet_as suspects c (only_whole cut)
  unfolding carried_out effected crashed_if cut_by reach_of only_whole quiet_as pick
  quiet_out Whole suspects c = rw (room_enough t p, no_broadcast (changed_at (doubted t p suspects) p c) p _)
  quiet_out (After k) suspects c = rw (count_none, le-ltb k 0 (omega arith))

  module _ (cut : Cut) (suspects : ℕ) (c : Change) where
    pub not_quiet : (x : Result (Unit {0}) Refusal) (r : Refusal) → IsErrAnd x (λ y. y ≡ r) → Err r ≡ only_whole cut
        → Gives (carried_out (system_in b) t p (cut_by cut (doubting suspects (quietly c)))) b (answer_number x) b
    unfolding quiet_as
    not_quiet x r passed told = answer_gives b _ x r passed (rw (← told) at (quiet_out cut suspects c))

    pub quiet_done : (x : Unit {0}) (d : List ℕ) → Ok x ≡ only_whole cut → Becomes (changed_at (doubted t p suspects) p c) b d
        → Gives (carried_out (system_in b) t p (cut_by cut (doubting suspects (quietly c)))) b 0 d
    unfolding quiet_as
    quiet_done x d told changes = done_gives b _ d _ (rw (← told) at (quiet_out cut suspects c)) changes

-- ---- what a step changes that suspects nobody
pub unsuspecting : (t : System) (p : ℕ) (c : Change) → changed_at t p c ≡ changed_at (doubted t p 0) p c
unsuspecting t p c = ap (λ (s : System). changed_at s p c) (sym (no_doubts t p))

pub unchanged_at : (t : System) (p : ℕ) → changed_at t p (assigning (variables_at t p)) ≡ t
unfolding changed_at changed with_entry put with_process process_at
unchanged_at t p = ap (λ (l : List Process). record { n = t.n; processes = l; channels = t.channels; trust = t.trust }) (put_at t.processes p no_process)

-- ---- a stop
module _ (b : List ℕ) (t : System) (p : ℕ) where
  stop_as : Result (Unit {0}) Refusal → Outcome
  stop_as (Err r) = refused (number r) (system_in b)
  stop_as (Ok x) = done (crashed_at t p)

  stop_out : (cut : Cut) → carried_out (system_in b) t p (cut_by cut (crash_plan (variables_at t p))) ≡ stop_as (only_whole cut)
  unfolding carried_out effected crashed_if cut_by reach_of only_whole stop_as pick
  stop_out Whole = rw (room_enough t p, no_doubts t p, unchanged_at t p, no_broadcast t p _)
  stop_out (After k) = rw (count_none, le-ltb k 0 (omega arith))

  pub not_stopped : (cut : Cut) (x : Result (Unit {0}) Refusal) (r : Refusal) → IsErrAnd x (λ y. y ≡ r) → Err r ≡ only_whole cut
      → Gives (carried_out (system_in b) t p (cut_by cut (crash_plan (variables_at t p)))) b (answer_number x) b
  unfolding stop_as
  not_stopped cut x r passed told = answer_gives b _ x r passed (rw (← told) at (stop_out cut))

  pub stop_done : (cut : Cut) (x : Unit {0}) (d : List ℕ) → Ok x ≡ only_whole cut → Becomes (crashed_at t p) b d
      → Gives (carried_out (system_in b) t p (cut_by cut (crash_plan (variables_at t p)))) b 0 d
  unfolding stop_as
  stop_done cut x d told stops = done_gives b _ d _ (rw (← told) at (stop_out cut)) stops
