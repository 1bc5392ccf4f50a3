-- What every step answers: "the number 0 and the next table; or a refusal number and the same table back"; the number 1 only where the
-- system is not sound; and a process that has stopped has stopped for good.
use Prim.Native.Nat.{ℕ}
use mathlib.Core.Path.{◌≡◌, refl, sym, ◌∙◌, ap}
use mathlib.Core.Bool.{Bool, true, false, ◌||◌}
use mathlib.Core.List.{List, [], ◌∷◌}
use mathlib.Core.Logic.{◌⊎◌}
use native.Mathlib.Omega.{arith}
use lib.Dec.{eqb}
use Rattle.std.specs.Prelude.{None, Some}
use Rattle.std.proofs.lemmas.Bool.Decides.{nat_tests}
use Rattle.view.specs.declared.ProcessId.{ProcessId}
use Rattle.view.specs.Logic.{pick, is_one_of}
use Rattle.view.specs.View.{has}
use Rattle.view.proofs.Laws.{by_pick, each_keeps, true_is_not_false}
use Rattle.channel.specs.declared.Message.{Message}
use Rattle.channel.specs.declared.Message.TheVariants.{Propose, Retry, Acc, Commit}
use Rattle.channel.specs.Channel.{front_of}
use Rattle.system.specs.declared.Variables.{Variables}
use Rattle.system.specs.declared.System.{System}
use Rattle.system.specs.Outcome.{Outcome, refused}
use Rattle.system.specs.Process.{Pending}
use Rattle.system.specs.System.{variables_at, with_process, with_channel, trust_at, with_trust, sent, sent_if_named, broadcasted}
use Rattle.sound.specs.Sound.{sound_pending, sound_system}
use Rattle.plan.specs.declared.Scope.{Scope}
use Rattle.plan.specs.declared.Action.{Action}
use Rattle.plan.specs.declared.Action.TheVariants.{Report, Receive, Respond, Crash}
use Rattle.plan.specs.declared.Cut.{Cut}
use Rattle.plan.specs.declared.Cut.TheVariants.{Whole, After}
use Rattle.plan.specs.declared.Step.{Step}
use Rattle.plan.specs.Plan.{new_view_plan, report_plan, committing_plan, message_plan, receive_plan, respond_plan, Planned}
use Rattle.plan.specs.Scope.{scope_of}
use Rattle.plan.specs.Cut.{reach_of, cut_by}
use Rattle.step.specs.Step.{plan_of, taken_off, doubted, changed_at, emptied_from, crashed_at, crashed_if, effected, permitted, carried_out, attempted, stepped}
use Rattle.step.proofs.Soundness.{Sound, sound_facts, proposal_facts}
use Rattle.step.proofs.Cases.{Transition}
use Rattle.step.proofs.Inversion.{sound_stepped, done_or_refused}

-- demand 1, of every system and every step: 0, or the same system
pub zero_or_same : (s : System) (o : Step) → ((stepped s o).refusal ≡ 0) ⊎ ((stepped s o).system ≡ s)
zero_or_same s o = grind (arith, done_or_refused)

-- ---- the number of processes stays
abbrev pub Sized : ℕ → System → Type 0
Sized n s = s.n ≡ n

pub effected_size : (n : ℕ) (t : System) (p : ℕ) (a : Planned) → Sized n t → Sized n (effected t p a)
unfolding effected doubted with_trust changed_at crashed_if crashed_at emptied_from broadcasted sent_if_named sent with_process with_channel
effected_size n t p a e =
    let told =
    each_keeps (Sized n) 8 (sent_if_named p a.addressees a.message)
    (λ k l u x h. by_pick (Sized n) (has a.addressees k) _ _ (λ b. by_pick (Sized n) (variables_at x k).crashed _ _ (λ c. h) (λ c. h)) (λ b. h))
    (changed_at (doubted t p a.suspects) p a.change) e in
    by_pick (Sized n) a.stops _ _ (λ b. each_keeps (Sized n) 8 (emptied_from p) (λ k l u x h. h) _ told) (λ b. told)

pub size_kept : (s : System) (o : Step) → (stepped s o).system.n ≡ s.n
unfolding stepped attempted permitted carried_out taken_off with_channel pick
size_kept s o = grind (arith, effected_size)

-- ---- every number is one of the table's, and 1 is given for no sound system
-- the number stands in the list
unfoldable pub among : List ℕ → ℕ → Bool
among [] k = false
among (a ∷ rest) k = eqb k a || among rest k

-- what a step answers on a sound system: 0, or a number of the refusal table other than 1; 8 and 9 are a sheet's
abbrev pub sound_answers : List ℕ
sound_answers = 0 ∷ 2 ∷ 3 ∷ 4 ∷ 5 ∷ 6 ∷ 7 ∷ 10 ∷ 11 ∷ 12 ∷ 13 ∷ []

-- and on any system
abbrev pub answers : List ℕ
answers = 1 ∷ sound_answers

abbrev Told : Planned → Type 0
Told a = among sound_answers a.refusal ≡ true

report-told : (n p v : ℕ) (x : Variables) (trust : ℕ) → Told (report_plan n p v x trust)
unfolding among report_plan new_view_plan pick
report-told n p v x trust = grind arith

committing_told : (x : Variables) → Told (committing_plan x)
unfolding among committing_plan pick
committing_told x = grind arith

receive-told : (q : ProcessId) (p : ℕ) (x : Variables) (ms : List Message) → Told (receive_plan q p x (front_of ms))
unfolding among receive_plan message_plan pick
receive-told q p x [] = refl
receive-told q p x (Propose v i ∷ ms) = refl
receive-told q p x (Retry old new ∷ ms) = grind arith
receive-told q p x (Acc i ∷ ms) = committing_told _
receive-told q p x (Commit v i ∷ ms) = refl

respond-told : (n p : ℕ) (q : ProcessId) (x : Variables) (y : Pending) → sound_pending n q.0 p y ≡ true → Told (respond_plan q x y)
unfolding among respond_plan sound_pending pick
respond-told n p q x None sound = refl
respond-told n p q x (Some r) sound = grind (arith, proposal_facts)

cut_told : (cut : Cut) (a : Planned) → Told a → Told (cut_by cut a)
unfolding among cut_by reach_of pick
cut_told Whole a h = h
cut_told (After k) a h = grind arith

abbrev Answer : Outcome → Type 0
Answer o = among sound_answers o.refusal ≡ true

permitted-told : (s : System) (c : Scope) (a : Planned) → (is_one_of s.n c.actor.0 ≡ true → is_one_of s.n c.partner.0 ≡ true → Told a)
    → Answer (permitted s c a)
unfolding among permitted carried_out pick
permitted-told s c a h = grind (arith, nat_tests)

plan-told : (s : System) → Sound s → (o : Action) → is_one_of s.n (scope_of o).actor.0 ≡ true → is_one_of s.n (scope_of o).partner.0 ≡ true → Told (plan_of s o)
unfolding among plan_of scope_of
plan-told s sound (Report p v) a b = report-told s.n p.0 v (variables_at s p.0) (trust_at s p.0)
plan-told s sound (Receive q p) a b = grind (arith, receive-told)
plan-told s sound (Respond p q) a b = grind (arith, respond-told)
plan-told s sound (Crash p) a b = refl

attempted-told : (s : System) → Sound s → (o : Step) → Answer (attempted s o)
unfolding attempted
attempted-told s sound o = grind (arith, permitted-told, cut_told, plan-told)

-- a sound system is never called unsound
pub sound_not_1 : (s : System) (o : Step) → sound_system s ≡ true → (stepped s o).refusal ≡ 1 → ⊥
unfolding among
sound_not_1 s o e one =
    true_is_not_false (sym (attempted-told s (sound_facts s e) o) ∙ ap (among sound_answers) (sym (ap (λ (a : Outcome). a.refusal) (sound_stepped s o e)) ∙ one))

-- an unsound one always is, and comes back as it was
pub unsound_is_1 : (s : System) (o : Step) → sound_system s ≡ false → stepped s o ≡ refused 1 s
unfolding stepped pick
unsound_is_1 s o e = rw e

-- every number is one of the table's
pub number_listed : (s : System) (o : Step) → among answers (stepped s o).refusal ≡ true
unfolding among stepped pick
number_listed s o = grind (arith, attempted-told, sound_facts)

-- ---- stopped for good: by every step that is done (events/proofs/Runs has it of runs)
pub stays_stopped : {s t : System} {o : Action} → Transition s t o → (k : ℕ) → (variables_at s k).crashed ≡ true → (variables_at t k).crashed ≡ true
stays_stopped {s} {t} r k crashed = grind arith
