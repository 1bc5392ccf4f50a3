-- The proposals that wait and are recorded: each is of the least process of its view, and those of one process to another come with
-- rising indices, above what is recorded. Each transition keeps it.
use Prim.Native.Nat.{ℕ, ◌≤◌, ◌<◌}
use mathlib.Core.Path.{◌≡◌, refl, sym, ◌∙◌, subst}
use mathlib.Core.Bool.{Bool, true}
use mathlib.Core.List.{List, [], ◌∷◌, ◌++◌}
use native.Mathlib.Omega.{arith}
use Rattle.std.specs.Prelude.{None, Some}
use Rattle.view.specs.declared.GroupIndex.{GroupIndex}
use Rattle.view.specs.View.{has, least_of}
use Rattle.view.proofs.Laws.{Each, each_as, by_number}
use Rattle.view.proofs.Sets.{has_none}
use Rattle.channel.specs.declared.Message.{Message}
use Rattle.channel.specs.declared.Message.TheVariants.{Propose, Retry, Acc, Commit}
use Rattle.system.specs.declared.Variables.{Variables}
use Rattle.system.specs.declared.System.{System}
use Rattle.system.specs.Process.{pending_at, Pending, proposal_at}
use Rattle.system.specs.System.{process_at, variables_at}
use Rattle.system.specs.Fresh.{fresh_system}
use Rattle.plan.specs.declared.Change.{Change}
use Rattle.plan.specs.declared.Action.{Action}
use Rattle.plan.specs.declared.Action.TheVariants.{Report, Receive, Respond, Crash}
use Rattle.plan.specs.Plan.{no_message}
use Rattle.step.proofs.Cases.{waiting_at, Known, Taken, Effect, Transition, proposes, follows, records, reproposes, ignores, marks, commits, enters, accepts, declines, crashes}
use Rattle.step.proofs.Effects.{Part, all_left, taken_left, each_process, each_message, each_pending}
use Rattle.step.proofs.Beginning.{nothing_recorded, nothing_waits}
use Rattle.agreement.specs.Accepted.{Acceptance}
use Rattle.agreement.proofs.Invariant.{Honest, Recorded, Reached}
use Rattle.quiet.proofs.Remains.{recorded_new, recorded_other, recorded_same}

-- ---- a message from q: a proposal is of the least process of its view
abbrev pub Led : ℕ → Message → Type 0
Led q (Propose v i) = (least_of v).0 ≡ q
Led q (Retry old new) = Unit {0}
Led q (Acc i) = Unit {0}
Led q (Commit v i) = Unit {0}

-- and so is what is recorded from q
abbrev pub LedRecord : ℕ → Pending → Type 0
LedRecord q None = Unit {0}
LedRecord q (Some r) = (least_of r.view).0 ≡ q

-- ---- indices that rise from proposal to proposal
-- a proposal is above index k
abbrev Above : ℕ → Message → Type 0
Above k (Propose v i) = k < i.0
Above k (Retry old new) = Unit {0}
Above k (Acc i) = Unit {0}
Above k (Commit v i) = Unit {0}

-- the index that the next one is above
abbrev raised : ℕ → Message → ℕ
raised k (Propose v i) = i.0
raised k (Retry old new) = k
raised k (Acc i) = k
raised k (Commit v i) = k

abbrev pub Rising : ℕ → List Message → Type 0
Rising k [] = Unit {0}
Rising k (m ∷ ms) = Above k m × Rising (raised k m) ms

-- the index of what is recorded; 0 where nothing is
abbrev pub index_of : Pending → ℕ
index_of None = 0
index_of (Some r) = r.index.0

rising_down : (j k : ℕ) → j ≤ k → (ms : List Message) → Rising k ms → Rising j ms
rising_down j k l [] e = tt
rising_down j k l (Propose v i ∷ ms) e = (omega (arith, e.0), e.1)
rising_down j k l (Retry o n ∷ ms) e = (tt, rising_down j k l ms e.1)
rising_down j k l (Acc i ∷ ms) e = (tt, rising_down j k l ms e.1)
rising_down j k l (Commit v i ∷ ms) e = (tt, rising_down j k l ms e.1)

-- the index that one put at the end must be above
abbrev top : ℕ → List Message → ℕ
top k [] = k
top k (m ∷ ms) = top (raised k m) ms

rising_end : (k : ℕ) (ms : List Message) (m : Message) → Rising k ms → Above (top k ms) m → Rising k (ms ++ (m ∷ []))
rising_end k [] m e h = (h, tt)
rising_end k (x ∷ ms) m e h = (e.0, rising_end (raised k x) ms m e.1 h)

-- a proposal is at most at index j
abbrev NotAbove : ℕ → Message → Type 0
NotAbove j (Propose v i) = i.0 ≤ j
NotAbove j (Retry old new) = Unit {0}
NotAbove j (Acc i) = Unit {0}
NotAbove j (Commit v i) = Unit {0}

top_not_above : (j k : ℕ) (ms : List Message) → k ≤ j → Each (NotAbove j) ms → top k ms ≤ j
top_not_above j k [] l e = l
top_not_above j k (Propose v i ∷ ms) l e = top_not_above j i.0 ms e.0 e.1
top_not_above j k (Retry o n ∷ ms) l e = top_not_above j k ms l e.1
top_not_above j k (Acc i ∷ ms) l e = top_not_above j k ms l e.1
top_not_above j k (Commit v i ∷ ms) l e = top_not_above j k ms l e.1

pub record Proposals (s : System) : Type 0 where
  pub led : (q u : ℕ) → Each (Led q) (waiting_at s q u)
  pub led_record : (u q : ℕ) → LedRecord q (pending_at (process_at s u) q)
  pub rising : (q u : ℕ) → Rising (index_of (pending_at (process_at s u) q)) (waiting_at s q u)

-- ---- what is left once a message that is no proposal is taken
rising_left : {s : System} {q p : ℕ} {m : Message} {left : ℕ → ℕ → List Message} → Taken s q p m left → ((k : ℕ) → raised k m ≡ k) → (a b k : ℕ)
    → Rising k (waiting_at s a b)
    → Rising k (left a b)
rising_left {s} {q} {p} {m} {left} taken flat a b k e = grind arith

-- ---- an effect
module _ {s t : System} {left : ℕ → ℕ → List Message} {p : ℕ} {c : Change} {stops : Bool} {to : ℕ} {m : Message} (f : Effect s t left p c stops to m)
    (o : Proposals s)
    (part : Part s left) where
  effect_proposals : LedRecord c.proposer.0 c.pending → ((a b : ℕ) → Rising (index_of (pending_at (process_at t b) a)) (left a b))
      → ((b : ℕ) → has to b ≡ true → Led p m)
      → ((b : ℕ) → has to b ≡ true → Above (top (index_of (pending_at (process_at t b) p)) (left p b)) m)
      → Proposals t
  effect_proposals new rest leads above =
      record {
        led = each_message f (λ a b. Led a) (λ a b. part (Led a) a b (o.led a b)) (λ b named live. leads b named);
        led_record =
            each_process f (λ k y. (j : ℕ) → LedRecord j (pending_at y j))
            (each_pending LedRecord (process_at s p) c stops (λ l. new) (o.led_record p))
            o.led_record;
        rising = grind (arith, rising_end);
      }

  -- no record is made or cleared
  same_record : c.proposer.0 ≡ 0 → ((a b k : ℕ) → Rising k (waiting_at s a b) → Rising k (left a b)) → (a b : ℕ)
      → Rising (index_of (pending_at (process_at t b) a)) (left a b)
  same_record none keeps a b = rw (recorded_same f none b a) (keeps a b _ (o.rising a b))

-- nothing is sent
quiet_proposals : {s t : System} {left : ℕ → ℕ → List Message} {p : ℕ} {c : Change} {stops : Bool} (f : Effect s t left p c stops 0 no_message) → Proposals s
    → Part s left
    → LedRecord c.proposer.0 c.pending
    → ((a b : ℕ) → Rising (index_of (pending_at (process_at t b) a)) (left a b))
    → Proposals t
quiet_proposals f o part new rest = effect_proposals f o part new rest (λ b named. absurd (has_none b named)) (λ b named. absurd (has_none b named))

-- ---- PropOut is at least at what waits and is recorded
recorded_not_above : (at : ℕ → Variables) (q : ℕ) (y : Pending) → Recorded at q y → index_of y ≤ (at q).propout.0
recorded_not_above at q None h = omega arith
recorded_not_above at q (Some r) h = h.bound

waiting_not_above : (acc : List Acceptance) (at : ℕ → Variables) (q u : ℕ) (m : Message) → Honest acc at q u m → NotAbove (at q).propout.0 m
waiting_not_above acc at q u (Propose v i) h = h.bound
waiting_not_above acc at q u (Retry o n) h = tt
waiting_not_above acc at q u (Acc i) h = tt
waiting_not_above acc at q u (Commit v i) h = tt

module _ {s t : System} {acc : List Acceptance} (r : Reached s acc) (o : Proposals s) where
  -- a new proposal of p is above all that wait for b and what b has recorded
  below_new : {left : ℕ → ℕ → List Message} {p : ℕ} {c : Change} {stops : Bool} {to : ℕ} {m : Message} → Effect s t left p c stops to m → Part s left
      → c.proposer.0 ≡ 0
      → (b : ℕ)
      → top (index_of (pending_at (process_at t b) p)) (left p b) ≤ (variables_at s p).propout.0
  below_new {left} {p} f part none b =
      rw (recorded_same f none b p)
      (top_not_above _ _ (left p b) (recorded_not_above (variables_at s) p (pending_at (process_at s b) p) (r.recorded b p))
      (part (NotAbove (variables_at s p).propout.0) p b
      (each_as (Honest acc (variables_at s) p b) (NotAbove (variables_at s p).propout.0) (waiting_not_above acc (variables_at s) p b) (waiting_at s p b)
      (r.messages p b))))

  -- an answer clears the record of q
  cleared : {p q : ℕ} {c : Change} {stops : Bool} {to : ℕ} {m : Message} → Effect s t (waiting_at s) p c stops to m → c.pending ≡ None → c.proposer.0 ≡ q
      → Known s q
      → (a b : ℕ)
      → Rising (index_of (pending_at (process_at t b) a)) (waiting_at s a b)
  cleared {p} {q} {c} f none from known a b =
      by_number b p
      (λ x. by_number a q (λ y. rw (x, y) new) (λ n. same (λ z. n (z.1 ∙ from))))
      (λ n. same (λ z. n z.0))
    where
      same : ((b ≡ p) × (a ≡ c.proposer.0) → ⊥) → Rising (index_of (pending_at (process_at t b) a)) (waiting_at s a b)
      same h = rw (recorded_other f b a h) (o.rising a b)

      new : Rising (index_of (pending_at (process_at t p) q)) (waiting_at s q p)
      new =
          subst (λ (j : ℕ). Rising (index_of (pending_at (process_at t p) j)) (waiting_at s q p)) from
          (subst (λ (y : Pending). Rising (index_of y) (waiting_at s q p)) (sym (recorded_new f r.shape (rw from known) ∙ none))
          (rising_down 0 _ (omega arith) (waiting_at s q p) (o.rising q p)))

  -- a proposal taken is recorded, and those left are above it
  recorded_rising : {q p : ℕ} {w : ℕ} {i : GroupIndex} {left : ℕ → ℕ → List Message} {c : Change} {stops : Bool} {to : ℕ} {m : Message}
      → Taken s q p (Propose w i) left
      → Effect s t left p c stops to m
      → c.pending ≡ Some (proposal_at w i)
      → c.proposer.0 ≡ q
      → Known s q
      → (a b : ℕ)
      → Rising (index_of (pending_at (process_at t b) a)) (left a b)
  recorded_rising {q} {p} {w} {i} {left} {c} taken f this from known a b =
      by_number b p
      (λ x. by_number a q (λ y. rw (x, y) new) (λ n. same (λ z. n (z.1 ∙ from)) (λ z. n z.0)))
      (λ n. same (λ z. n z.0) (λ z. n z.1))
    where
      same : ((b ≡ p) × (a ≡ c.proposer.0) → ⊥) → ((a ≡ q) × (b ≡ p) → ⊥) → Rising (index_of (pending_at (process_at t b) a)) (left a b)
      same h k = rw (recorded_other f b a h, taken.others a b k) (o.rising a b)

      new : Rising (index_of (pending_at (process_at t p) q)) (left q p)
      new =
          subst (λ (j : ℕ). Rising (index_of (pending_at (process_at t p) j)) (left q p)) from
          (subst (λ (y : Pending). Rising (index_of y) (left q p)) (sym (recorded_new f r.shape (rw from known) ∙ this))
          (subst (Rising _) taken.first (o.rising q p)).1)

  pub transition_proposals : (a : Action) → Transition s t a → Proposals t
  transition_proposals (Report p v) (proposes k) =
      effect_proposals k.effect o (all_left s) tt (same_record k.effect o (all_left s) refl (λ a b j e. e)) (λ b named. k.least)
      (λ b named. omega (arith, below_new k.effect (all_left s) refl b))
  transition_proposals (Report p v) (follows k) =
      quiet_proposals k.effect o (all_left s) tt (same_record k.effect o (all_left s) refl (λ a b j e. e))
  transition_proposals (Receive q p) (records k) =
      quiet_proposals k.effect o (taken_left k.taken) (subst (Each (Led q.0)) k.taken.first (o.led q.0 p.0)).0
      (recorded_rising k.taken k.effect refl refl k.partner)
  transition_proposals (Receive q p) (reproposes k) =
      effect_proposals k.effect o (taken_left k.taken) tt (same_record k.effect o (taken_left k.taken) refl (rising_left k.taken (λ j. refl)))
      (λ b named. k.least)
      (λ b named. omega (arith, k.present, k.rises, below_new k.effect (taken_left k.taken) refl b))
  transition_proposals (Receive q p) (ignores k) =
      quiet_proposals k.effect o (taken_left k.taken) tt (same_record k.effect o (taken_left k.taken) refl (rising_left k.taken (λ j. refl)))
  transition_proposals (Receive q p) (marks k) =
      quiet_proposals k.effect o (taken_left k.taken) tt (same_record k.effect o (taken_left k.taken) refl (rising_left k.taken (λ j. refl)))
  transition_proposals (Receive q p) (commits k) =
      effect_proposals k.effect o (taken_left k.taken) tt (same_record k.effect o (taken_left k.taken) refl (rising_left k.taken (λ j. refl)))
      (λ b named. tt)
      (λ b named. tt)
  transition_proposals (Receive q p) (enters k) =
      quiet_proposals k.effect o (taken_left k.taken) tt (same_record k.effect o (taken_left k.taken) refl (rising_left k.taken (λ j. refl)))
  transition_proposals (Respond p q) (accepts k) =
      effect_proposals k.effect o (all_left s) tt (cleared k.effect refl refl k.partner) (λ b named. tt) (λ b named. tt)
  transition_proposals (Respond p q) (declines k) =
      effect_proposals k.effect o (all_left s) tt (cleared k.effect refl refl k.partner) (λ b named. tt) (λ b named. tt)
  transition_proposals (Crash p) (crashes k) =
      quiet_proposals k.effect o (all_left s) tt (same_record k.effect o (all_left s) refl (λ a b j e. e))

-- at the start there is none
pub fresh_proposals : (n : ℕ) → Proposals (fresh_system n)
fresh_proposals n = grind (arith, nothing_waits, nothing_recorded)
