-- A transition as a turn of one process: it has a new view, or a new PropOut, or has accepted, or nothing of this is new.
use Prim.Native.Nat.{ℕ, ◌≤◌, ◌<◌, ◌+◌}
use mathlib.Core.Path.{◌≡◌, refl, sym, ◌∙◌, ap, subst}
use mathlib.Core.Bool.{Bool, true, false}
use mathlib.Core.List.{List, [], ◌∷◌, ◌++◌, append-nil}
use native.Mathlib.Omega.{arith}
use Rattle.view.specs.View.{has, least_of}
use Rattle.view.proofs.Sets.{not_empty}
use Rattle.channel.specs.declared.Message.{Message}
use Rattle.system.specs.declared.System.{System}
use Rattle.system.specs.System.{process_at, variables_at, may_trust}
use Rattle.plan.specs.declared.Change.{Change}
use Rattle.plan.specs.declared.Action.{Action}
use Rattle.plan.specs.declared.Action.TheVariants.{Report, Receive, Respond, Crash}
use Rattle.plan.specs.Scope.{scope_of}
use Rattle.step.proofs.Cases.{afterwards, Effect, SameTrust, Doubts, Transition, proposes, follows, records, reproposes, ignores, marks, commits, enters, accepts, declines, crashes}
use Rattle.agreement.specs.Accepted.{Acceptance, accepted_by}
use Rattle.agreement.proofs.Invariant.{Recorded, Reached}
use Rattle.agreement.proofs.Changes.{at_actor}
use Rattle.agreement.proofs.Steps.{accepts_this, accepts_none}
use Rattle.quiet.proofs.Proposals.{LedRecord, Proposals}

-- ---- a turn
-- PropOut of process a has risen, and v* is not empty
pub record Renewed (s t : System) (a : ℕ) : Type 0 where
  pub up : (variables_at s a).propout.0 < (variables_at t a).propout.0
  pub proposed : (variables_at t a).proposal ≡ 0 → ⊥

-- v_p, PropOut and v* are as they were
pub record Steady (s t : System) (a : ℕ) : Type 0 where
  pub view : (variables_at t a).view ≡ (variables_at s a).view
  pub propout : (variables_at t a).propout ≡ (variables_at s a).propout
  pub proposal : (variables_at t a).proposal ≡ (variables_at s a).proposal

-- of a process that is as it was
pub same_steady : {s t : System} {k : ℕ} → process_at t k ≡ process_at s k → Steady s t k
same_steady e = grind arith

-- and of the one that acts, where its change leaves the three
pub actor_steady : {s t : System} {left : ℕ → ℕ → List Message} {p : ℕ} {c : Change} {stops : Bool} {to : ℕ} {m : Message} → Effect s t left p c stops to m
    → c.variables.view ≡ (variables_at s p).view
    → c.variables.propout ≡ (variables_at s p).propout
    → c.variables.proposal ≡ (variables_at s p).proposal
    → Steady s t p
unfolding afterwards
actor_steady {s} {p = p} f view propout proposal = grind arith

-- a report of view v by process a: whom it brings back a may trust again (S-5), and what becomes of the marks
pub record Bringing (s t : System) (a v : ℕ) : Type 0 where
  pub trusted : (b : ℕ) → has v b ≡ true → has (variables_at s a).view b ≡ false → may_trust s a b ≡ true
  pub doubts : Doubts s t a v

pub data Turn (s t : System) (acc new : List Acceptance) (a : ℕ) : Type 0 where
  -- a report: PropOut rises if a is the least process of its new view
  new_view_lem : (variables_at s a).propout.0 ≤ (variables_at t a).propout.0 → ((least_of (variables_at t a).view).0 ≡ a → Renewed s t a)
      → Bringing s t a (variables_at t a).view
      → new ≡ acc
      → Turn s t acc new a
  -- a Retry acted on
  new_index : Renewed s t a → (variables_at t a).view ≡ (variables_at s a).view → SameTrust s t → new ≡ acc
      → Turn s t acc new a
  -- an answer that accepts its local view at index j, proposed by the least process of it
  new_acceptance : (j : ℕ) → Steady s t a → has (variables_at s a).view a ≡ true → (variables_at s a).next.0 ≤ j → (variables_at t a).next.0 ≡ j + 1
      → j ≤ (variables_at s (least_of (variables_at s a).view).0).propout.0
      → SameTrust s t
      → new ≡ acc ++ (record { process = a; view = (variables_at s a).view; index = j } ∷ [])
      → Turn s t acc new a
  nothing_new : Steady s t a → (variables_at t a).next ≡ (variables_at s a).next → SameTrust s t → new ≡ acc
      → Turn s t acc new a

-- the turn of process a, and the others are as they were
pub record Taking (s t : System) (acc new : List Acceptance) (a : ℕ) : Type 0 where
  pub size : t.n ≡ s.n
  pub others : (k : ℕ) → (k ≡ a → ⊥) → process_at t k ≡ process_at s k
  pub turn : Turn s t acc new a

-- ---- each transition
module _ {s t : System} {acc : List Acceptance} (r : Reached s acc) (o : Proposals s) where
  taking : {left : ℕ → ℕ → List Message} {p : ℕ} {c : Change} {stops : Bool} {to : ℕ} {m : Message} {new : List Acceptance} → Effect s t left p c stops to m
      → Turn s t acc new p
      → Taking s t acc new p
  taking f turn = record { size = f.size; others = f.others; turn = turn }

  -- the variables but the marks are as they were, and nothing is accepted
  idle : {left : ℕ → ℕ → List Message} {p : ℕ} {c : Change} {stops : Bool} {to : ℕ} {m : Message} → Effect s t left p c stops to m
      → c.variables.view ≡ (variables_at s p).view
      → c.variables.propout ≡ (variables_at s p).propout
      → c.variables.proposal ≡ (variables_at s p).proposal
      → c.variables.next ≡ (variables_at s p).next
      → SameTrust s t
      → Taking s t acc (acc ++ []) p
  unfolding afterwards
  idle {p = p} f view propout proposal next trust = grind (arith, append-nil)

  pub transition_taking : (a : Action) → Transition s t a → Taking s t acc (acc ++ accepted_by s a) (scope_of a).actor.0
  unfolding afterwards scope_of
  transition_taking (Report p v) (proposes k) = grind (arith, not_empty, append-nil)
  transition_taking (Report p v) (follows k) = grind (arith, append-nil)
  transition_taking (Receive q p) (records k) = idle k.effect refl refl refl refl k.trust
  transition_taking (Receive q p) (reproposes k) = grind (arith, not_empty, append-nil)
  transition_taking (Receive q p) (ignores k) = idle k.effect refl refl refl refl k.trust
  transition_taking (Receive q p) (marks k) = idle k.effect refl refl refl refl k.trust
  transition_taking (Receive q p) (commits k) = idle k.effect refl refl refl refl k.trust
  transition_taking (Receive q p) (enters k) = idle k.effect refl refl refl refl k.trust
  transition_taking (Respond p q) (accepts k) =
      let x = variables_at s p.0 in
      let proposed = subst (Recorded (variables_at s) q.0) k.recorded (r.recorded p.0 q.0) in
      let led = subst (LedRecord q.0) k.recorded (o.led_record p.0 q.0) in
      let least : (least_of x.view).0 ≡ q.0 = sym (ap (λ (v : ℕ). (least_of v).0) k.same) ∙ led in
      taking k.effect
      (new_acceptance k.index.0
      (actor_steady k.effect refl refl refl)
      (subst (λ (v : ℕ). has v p.0 ≡ true) k.same k.sound.receiver)
      k.free
      (at_actor k.effect (λ y. y.next.0 ≡ k.index.0 + 1) refl)
      (subst (λ (j : ℕ). k.index.0 ≤ (variables_at s j).propout.0) (sym least) proposed.bound)
      k.trust
      (ap (λ (l : List Acceptance). acc ++ l)
      (accepts_this p.0 x _ k.view k.index k.recorded k.free
      ∙ ap (λ (v : ℕ). this v ∷ []) k.same)))
    where
      this : ℕ → Acceptance
      this v = record { process = p.0; view = v; index = k.index.0 }
  transition_taking (Respond p q) (declines k) =
      rw (accepts_none p.0 (variables_at s p.0) _ k.view k.index k.recorded k.late) (idle k.effect refl refl refl refl k.trust)
  transition_taking (Crash p) (crashes k) = idle k.effect refl refl refl refl k.trust
