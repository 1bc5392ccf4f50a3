-- What the messages of a channel weigh together, once one has come off and once a step has sent some; and whether a process is marked.
use Prim.Native.Nat.{ℕ, ◌+◌, ◌*◌, ◌≤◌}
use mathlib.Core.Path.{◌≡◌, refl}
use mathlib.Core.Bool.{Bool, true}
use mathlib.Core.List.{List, [], ◌∷◌, ◌++◌}
use native.Mathlib.Omega.{arith}
use borrow.Author.Tests.{eq-eqb}
use lib.Dec.{eqb}
use Rattle.view.specs.Logic.{pick, one}
use Rattle.view.specs.View.{has}
use Rattle.view.proofs.Laws.{by_test}
use Rattle.view.proofs.Sets.{has_none, has-with}
use Rattle.channel.specs.declared.Message.{Message}
use Rattle.system.specs.declared.Variables.{Variables}
use Rattle.system.specs.declared.System.{System}
use Rattle.system.specs.System.{variables_at}
use Rattle.plan.specs.declared.Change.{Change}
use Rattle.step.proofs.Cases.{waiting_at, Taken, Effect, Marking, present, stale}

-- ---- 1 or 0
pub one_true : (t : Bool) → t ≡ true → one t ≡ 1
unfolding one pick
one_true t e = rw e

pub one_small : (t : Bool) → one t ≤ 1
unfolding one pick
one_small t = grind arith

-- nobody is marked in the empty set
pub unmarked : (p : ℕ) → one (has 0 p) ≡ 0
unfolding one pick
unmarked p = by_test (has 0 p) (λ e. absurd (has_none p e)) (λ e. rw e)

-- 1 where the two numbers are one
unfoldable pub is : ℕ → ℕ → ℕ
is a p = one (eqb a p)

pub is_self : (p : ℕ) → is p p ≡ 1
unfolding is one pick
is_self p = rw (eq-eqb p p refl)

pub by_is : (P : ℕ → Type 0) (a p : ℕ) → (a ≡ p → P 1) → ((a ≡ p → ⊥) → P 0) → P (is a p)
unfolding is one pick
by_is P a p same other = grind arith

pub is_other : (a p : ℕ) → (a ≡ p → ⊥) → is a p ≡ 0
is_other a p h = by_is (λ k. k ≡ 0) a p (λ e. absurd (h e)) (λ n. refl)

-- 1 where process a has marked itself
unfoldable pub mark : System → ℕ → ℕ
mark s a = one (has (variables_at s a).acks a)

-- ---- messages, by weight
unfoldable pub count : (Message → ℕ) → List Message → ℕ
count w [] = 0
count w (m ∷ ms) = w m + count w ms

pub count_end : (w : Message → ℕ) (ms : List Message) (m : Message) → count w (ms ++ (m ∷ [])) ≡ count w ms + w m
unfolding count
count_end w [] m = omega arith
count_end w (n ∷ ms) m = omega (arith, count_end w ms m)

-- nothing is taken off
pub none_off : (s : System) (w : Message → ℕ) (a b : ℕ) → count w (waiting_at s a b) + 0 ≡ count w (waiting_at s a b)
none_off s w a b = omega arith

-- what is taken off
pub taken_off_lem : {s : System} {q p : ℕ} {m : Message} {left : ℕ → ℕ → List Message} → Taken s q p m left → (w : Message → ℕ) (a b : ℕ)
    → count w (left a b) + is a q * is b p * w m ≡ count w (waiting_at s a b)
unfolding count
taken_off_lem {s} {q} {p} {m} {left} k w a b =
    by_is (λ x. count w (left a b) + x * is b p * w m ≡ count w (waiting_at s a b)) a q
    (λ e.
    by_is (λ y. count w (left a b) + 1 * y * w m ≡ count w (waiting_at s a b)) b p
    (λ d. rw (e, d, k.first) (omega arith))
    (λ h. rw (k.others a b (λ z. h z.1)) (omega arith)))
    (λ h. rw (k.others a b (λ z. h z.0)) (omega arith))

-- a channel weighs what was left on it, or that and the message
pub weighs : {s t : System} {left : ℕ → ℕ → List Message} {p : ℕ} {c : Change} {stops : Bool} {to : ℕ} {m : Message} → Effect s t left p c stops to m
    → (w : Message → ℕ) (a b k : ℕ)
    → (a ≡ p → has to b ≡ true → w m ≤ k)
    → count w (waiting_at t a b) ≤ count w (left a b) + k
unfolding count
weighs {left = left} {m = m} f w a b k new = grind (arith, count_end)

-- ---- marks
-- p is marked once an Acc of q is taken: it was, or it is q and the Acc is of the present proposal
pub marked_present : (x : Variables) (q i acks p : ℕ) → 1 ≤ q → q ≤ 8 → Marking x q i acks
    → one (has acks p) ≤ one (has x.acks p) + is p q * is x.propout.0 i
unfolding one pick
marked_present x q i acks p low high (present e a) = grind (arith, is_self, has-with)
marked_present x q i acks p low high (stale e a) = rw a (omega arith)

-- whichever proposal it is of
pub marked : (x : Variables) (q i acks p : ℕ) → 1 ≤ q → q ≤ 8 → Marking x q i acks → one (has acks p) ≤ one (has x.acks p) + is p q
marked x q i acks p low high m =
    by_is (λ k. one (has acks p) ≤ one (has x.acks p) + is p q * k → one (has acks p) ≤ one (has x.acks p) + is p q) x.propout.0 i
    (λ e h. omega (arith, h))
    (λ n h. omega (arith, h))
    (marked_present x q i acks p low high m)
