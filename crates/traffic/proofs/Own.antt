-- Why Commits of one proposal are sent once: what a process has on its channel to itself, and its own mark, by the index of the proposal.
use Prim.Native.Nat.{ℕ, ◌+◌, ◌≤◌, ◌<◌}
use mathlib.Core.Path.{◌≡◌, refl, sym, subst}
use mathlib.Core.Bool.{Bool}
use mathlib.Core.List.{List}
use native.Mathlib.Omega.{arith}
use borrow.Author.Tests.{lt-ltb}
use lib.Dec.{ltb}
use Rattle.view.specs.declared.ProcessId.{ProcessId}
use Rattle.view.specs.Logic.{pick, one}
use Rattle.view.specs.View.{has}
use Rattle.view.proofs.Laws.{by_number}
use Rattle.view.proofs.Sets.{subset-has}
use Rattle.channel.specs.declared.Message.{Message}
use Rattle.channel.specs.declared.Message.TheVariants.{Propose, Retry, Acc, Commit}
use Rattle.system.specs.declared.Process.{Process}
use Rattle.system.specs.declared.System.{System}
use Rattle.system.specs.System.{process_at, variables_at}
use Rattle.plan.specs.declared.Change.{Change}
use Rattle.plan.specs.declared.Action.{Action}
use Rattle.plan.specs.declared.Action.TheVariants.{Report, Receive, Respond, Crash}
use Rattle.step.proofs.Cases.{waiting_at, afterwards, Taken, Effect, Marks, Commits, Accepts, Transition, proposes, follows, records, reproposes, ignores, marks, commits, enters, accepts, declines, crashes}
use Rattle.step.proofs.Weights.{one_true, one_small, unmarked, is, is_self, is_other, mark, count, taken_off_lem, weighs, marked_present}

-- ---- 1 where a is below b
unfoldable pub is_below : ℕ → ℕ → ℕ
is_below a b = one (ltb a b)

pub is_below_lem : (a b : ℕ) → a < b → is_below a b ≡ 1
unfolding is_below one pick
is_below_lem a b h = rw (lt-ltb a b h)

pub by_below : (P : ℕ → Type 0) (a b : ℕ) → (a < b → P 1) → (b ≤ a → P 0) → P (is_below a b)
unfolding is_below one pick
by_below P a b yes-case no-case = grind arith

pub below_small : (a b : ℕ) → is_below a b ≤ 1
unfolding is_below
below_small a b = one_small (ltb a b)

-- it does not fall where b rises
below_rises : (a b c : ℕ) → b ≤ c → is_below a b ≤ is_below a c
below_rises a b c h = by_below (λ k. k ≤ is_below a c) a b (λ l. omega (arith, is_below_lem a c (omega arith))) (λ l. omega arith)

-- ---- the Accs at index i that wait from process q to itself
unfoldable pub acc_at : ℕ → Message → ℕ
acc_at i (Propose v j) = 0
acc_at i (Retry old new) = 0
acc_at i (Acc j) = is i j.0
acc_at i (Commit v j) = 0

unfoldable pub own_accs : System → ℕ → ℕ → ℕ
own_accs s q i = count (acc_at i) (waiting_at s q q)

-- Process q sends no Commits any more at PropOut k, nor at an earlier one. At the present PropOut there is at most one of these, and only
-- where Next is past it: that it is k, an Acc of it on the way to q from itself, and the mark of q.
pub record Spent (s : System) (q k : ℕ) : Type 0 where
  pub accs : (i : ℕ) → own_accs s q i ≤ is_below i (variables_at s q).next.0
  pub once : is k (variables_at s q).propout.0 + own_accs s q (variables_at s q).propout.0 + mark s q
      ≤ is_below (variables_at s q).propout.0 (variables_at s q).next.0
  pub past : k ≤ (variables_at s q).propout.0

-- ---- any effect
-- what is left of the messages weighs no more
abbrev Fewer : System → (ℕ → ℕ → List Message) → Type 0
Fewer s left = (w : Message → ℕ) (a b : ℕ) → count w (left a b) ≤ count w (waiting_at s a b)

none_taken : (s : System) → Fewer s (waiting_at s)
none_taken s w a b = omega arith

one_taken : {s : System} {q p : ℕ} {m : Message} {left : ℕ → ℕ → List Message} → Taken s q p m left → Fewer s left
one_taken k w a b = omega (arith, taken_off_lem k w a b)

-- told of the process y that q is in t
pub spent_as : {t : System} {q k : ℕ} (y : Process) → process_at t q ≡ y → ((i : ℕ) → own_accs t q i ≤ is_below i y.variables.next.0)
    → is k y.variables.propout.0 + own_accs t q y.variables.propout.0 + one (has y.variables.acks q)
    ≤ is_below y.variables.propout.0 y.variables.next.0
    → k ≤ y.variables.propout.0
    → Spent t q k
unfolding mark
spent_as {t} {q} {k} y e accs once past = grind arith

module _ {s t : System} {left : ℕ → ℕ → List Message} {p : ℕ} {c : Change} {stops : Bool} {to : ℕ} {m : Message} (f : Effect s t left p c stops to m) where
  -- the process that acted
  own_spent : (k : ℕ) → ((i : ℕ) → own_accs t p i ≤ is_below i c.variables.next.0)
      → is k c.variables.propout.0 + own_accs t p c.variables.propout.0 + one (has c.variables.acks p)
      ≤ is_below c.variables.propout.0 c.variables.next.0
      → k ≤ c.variables.propout.0
      → Spent t p k
  unfolding afterwards
  own_spent k accs once past = grind (arith, spent_as)

  module _ (fewer : Fewer s left) where
    -- every other process
    other_spent : (q : ℕ) → (q ≡ p → ⊥) → (k : ℕ) → Spent s q k → Spent t q k
    unfolding mark own_accs
    other_spent q h k z = grind (arith, weighs, spent_as)

    module _ (light : (i : ℕ) → acc_at i m ≡ 0) (k : ℕ) (z : Spent s p k) where
      own_fewer : (i : ℕ) → own_accs t p i ≤ own_accs s p i
      unfolding own_accs
      own_fewer i = omega (arith, weighs f (acc_at i) p p 0 (λ e named. omega (arith, light i)), fewer (acc_at i) p p)

      -- PropOut, Next and the marks stay
      own_steady : c.variables.next.0 ≡ (variables_at s p).next.0 → c.variables.propout.0 ≡ (variables_at s p).propout.0
          → c.variables.acks ≡ (variables_at s p).acks
          → Spent t p k
      unfolding mark
      own_steady next out acks =
          own_spent k
          (λ i. rw next (omega (arith, own_fewer i, z.accs i)))
          (rw (next, out, acks) (omega (arith, own_fewer (variables_at s p).propout.0, z.once)))
          (rw out z.past)

      -- a new proposal: the marks are cleared
      own_renewed : c.variables.next.0 ≡ (variables_at s p).next.0 → (variables_at s p).propout.0 < c.variables.propout.0 → c.variables.acks ≡ 0
          → Spent t p k
      own_renewed next out acks =
          own_spent k
          (λ i. rw next (omega (arith, own_fewer i, z.accs i)))
          (rw (next, acks)
          (omega (
            arith,
            own_fewer c.variables.propout.0,
            z.accs c.variables.propout.0,
            unmarked p,
            is_other k c.variables.propout.0 (λ e. absurd (omega (arith, z.past))),
          )))
          (omega (arith, z.past))

-- ---- an Acc is taken
module _ {s t : System} {q p : ProcessId} where
  -- one that commits nothing: an own Acc of the present proposal becomes the mark
  marks_spent : (r : Marks s t q p) (k : ℕ) → Spent s p.0 k → Spent t p.0 k
  unfolding mark own_accs acc_at
  marks_spent r k z =
      let out = (variables_at s p.0).propout.0 in
      own_spent r.effect k
      (λ i. omega (arith, own_fewer r.effect (one_taken r.taken) (λ j. refl) k z i, z.accs i))
      (omega (
        arith,
        weighs r.effect (acc_at out) p.0 p.0 0 (λ e named. omega arith),
        rw (is_self p.0) at (taken_off_lem r.taken (acc_at out) p.0 p.0),
        marked_present (variables_at s p.0) q.0 r.index.0 r.acks p.0 r.partner.low r.partner.eight r.marking,
        z.once,
      ))
      z.past

  -- Commits are sent: by the mark, or by the Acc that is taken
  pub commits_spent : (r : Commits s t q p) (k : ℕ) → Spent s p.0 k
      → (k < (variables_at s p.0).propout.0) × Spent t p.0 (variables_at s p.0).propout.0
  unfolding mark own_accs acc_at
  commits_spent r k z =
      let out = (variables_at s p.0).propout.0 in
      let all = one_true (has r.acks p.0) (subset-has _ r.acks p.0 r.complete r.proposed) in
      let own = marked_present (variables_at s p.0) q.0 r.index.0 r.acks p.0 r.partner.low r.partner.eight r.marking in
      let off = rw (is_self p.0) at (taken_off_lem r.taken (acc_at out) p.0 p.0) in
      let before = weighs r.effect (acc_at out) p.0 p.0 0 (λ e named. omega arith) in (
        by_number k out
            (λ e. absurd (omega (arith, all, own, off, z.once, below_small out (variables_at s p.0).next.0, rw (e, is_self out) at z.once)))
            (λ other. omega (arith, z.past)),
        own_spent r.effect out
            (λ i. omega (arith, own_fewer r.effect (one_taken r.taken) (λ j. refl) k z i, z.accs i))
            (rw (is_self out) (omega (arith, all, own, off, before, z.once, unmarked p.0)))
            (omega arith),
      )

-- an earlier proposal is spent too
earlier : {t : System} {q k j : ℕ} → k < j → Spent t q j → Spent t q k
earlier {t} {q} {k} {j} h z = grind (arith, is_other)

-- ---- an Acc is sent
accepts_spent : {s t : System} {p q : ProcessId} (r : Accepts s t p q) (k : ℕ) → Spent s p.0 k → Spent t p.0 k
unfolding mark own_accs acc_at
accepts_spent {s} {t} {p} r k z =
    let out = (variables_at s p.0).propout.0 in
    let next = (variables_at s p.0).next.0 in
    let i = r.index.0 in
    let more : (j : ℕ) → own_accs t p.0 j ≤ own_accs s p.0 j + is j i = λ j. weighs r.effect (acc_at j) p.0 p.0 (is j i) (λ e named. omega arith) in
    let free : is_below i next ≡ 0 = by_below (λ b. b ≡ 0) i next (λ h. absurd (omega (arith, r.free))) (λ h. refl) in
    let up : is_below i (i + 1) ≡ 1 = is_below_lem i (i + 1) (omega arith) in
    own_spent r.effect k
    (λ j.
    by_number j i
    (λ e. rw e (omega (arith, rw (is_self i) at (more i), z.accs i, free, up)))
    (λ h. omega (arith, rw (is_other j i h) at (more j), z.accs j, below_rises j next (i + 1) (omega (arith, r.free)))))
    (by_number out i
    (λ e. rw e (omega (arith, rw (is_self i) at (more i), rw e at z.once, free, up)))
    (λ h. omega (arith, rw (is_other out i h) at (more out), z.once, below_rises out next (i + 1) (omega (arith, r.free)))))
    z.past

-- ---- each transition
module _ {s t : System} where
  -- of the process that acts, and of the others
  spent_by : {left : ℕ → ℕ → List Message} {p : ℕ} {c : Change} {stops : Bool} {to : ℕ} {m : Message} → Effect s t left p c stops to m → Fewer s left
      → ((k : ℕ) → Spent s p k → Spent t p k)
      → (q k : ℕ)
      → Spent s q k
      → Spent t q k
  spent_by {p = p} f fewer own q k z =
      by_number q p
      (λ e. subst (λ (j : ℕ). Spent t j k) (sym e) (own k (subst (λ (j : ℕ). Spent s j k) e z)))
      (λ h. other_spent f fewer q h k z)

  pub transition_spent : (o : Action) → Transition s t o → (q k : ℕ) → Spent s q k → Spent t q k
  unfolding acc_at
  transition_spent (Report p v) (proposes r) =
      spent_by r.effect (none_taken s) (λ k z. own_renewed r.effect (none_taken s) (λ i. refl) k z refl (omega arith) refl)
  transition_spent (Report p v) (follows r) =
      spent_by r.effect (none_taken s) (λ k z. own_steady r.effect (none_taken s) (λ i. refl) k z refl refl refl)
  transition_spent (Receive q p) (records r) =
      spent_by r.effect (one_taken r.taken) (λ k z. own_steady r.effect (one_taken r.taken) (λ i. refl) k z refl refl refl)
  transition_spent (Receive q p) (reproposes r) =
      spent_by r.effect (one_taken r.taken)
      (λ k z. own_renewed r.effect (one_taken r.taken) (λ i. refl) k z refl (omega (arith, r.present, r.rises)) refl)
  transition_spent (Receive q p) (ignores r) =
      spent_by r.effect (one_taken r.taken) (λ k z. own_steady r.effect (one_taken r.taken) (λ i. refl) k z refl refl refl)
  transition_spent (Receive q p) (marks r) = spent_by r.effect (one_taken r.taken) (marks_spent r)
  transition_spent (Receive q p) (commits r) = spent_by r.effect (one_taken r.taken) (λ k z. earlier (commits_spent r k z).0 (commits_spent r k z).1)
  transition_spent (Receive q p) (enters r) =
      spent_by r.effect (one_taken r.taken) (λ k z. own_steady r.effect (one_taken r.taken) (λ i. refl) k z refl refl refl)
  transition_spent (Respond p q) (accepts r) = spent_by r.effect (none_taken s) (accepts_spent r)
  transition_spent (Respond p q) (declines r) =
      spent_by r.effect (none_taken s) (λ k z. own_steady r.effect (none_taken s) (λ i. refl) k z refl refl refl)
  transition_spent (Crash p) (crashes r) =
      spent_by r.effect (none_taken s) (λ k z. own_steady r.effect (none_taken s) (λ i. refl) k z refl refl refl)
