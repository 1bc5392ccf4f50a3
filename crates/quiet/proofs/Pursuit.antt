-- What becomes of the last proposal of a process that is the least of its local view. Either each process of the proposed view still has
-- it before it, in one of five forms, or each of them has the Commit before it or the entry. Of who has stopped at some time nothing is said.
use Prim.Native.Nat.{ℕ}
use mathlib.Core.Path.{◌≡◌, sym, ◌∙◌, subst}
use mathlib.Core.Bool.{Bool, true, false}
use mathlib.Core.List.{List}
use mathlib.Core.Logic.{◌⊎◌, inl, inr, ⊎_elim}
use Rattle.std.specs.Prelude.{None, Some, Any}
use Rattle.std.proofs.lemmas.List.Quantifiers.{Any-push}
use Rattle.view.specs.declared.GroupIndex.{GroupIndex}
use Rattle.view.specs.View.{has, subset, least_of}
use Rattle.channel.specs.declared.Message.{Message}
use Rattle.channel.specs.declared.Message.TheVariants.{Propose, Retry, Acc, Commit}
use Rattle.system.specs.declared.System.{System}
use Rattle.system.specs.Process.{pending_at, Pending}
use Rattle.system.specs.System.{process_at, variables_at, entry_in}
use Rattle.plan.specs.declared.Change.{Change}
use Rattle.step.proofs.Cases.{waiting_at, Effect}
use Rattle.agreement.proofs.Changes.{Since}
use Rattle.quiet.proofs.Remains.{some_kept, live_goes_on}
use Rattle.quiet.proofs.Turns.{Steady}

-- ---- messages about a proposal at index o
-- the proposal
abbrev pub Asks : ℕ → Message → Type 0
Asks o (Propose v i) = i.0 ≡ o
Asks o (Retry old new) = ⊥
Asks o (Acc i) = ⊥
Asks o (Commit v i) = ⊥

-- an answer to it
abbrev pub Replies : ℕ → Message → Type 0
Replies o (Propose v i) = ⊥
Replies o (Retry old new) = old.0 ≡ o
Replies o (Acc i) = i.0 ≡ o
Replies o (Commit v i) = ⊥

-- the Commit of view v there
abbrev pub Concludes : ℕ → ℕ → Message → Type 0
Concludes v o (Propose w i) = ⊥
Concludes v o (Retry old new) = ⊥
Concludes v o (Acc i) = ⊥
Concludes v o (Commit w i) = (w ≡ v) × (i.0 ≡ o)

-- a record of it
abbrev pub Notes : ℕ → Pending → Type 0
Notes o None = ⊥
Notes o (Some r) = r.index.0 ≡ o

-- ---- the proposal of process p at index o, at process u
pub data Underway (s : System) (o p u : ℕ) : Type 0 where
  asked : Any (Asks o) (waiting_at s p u) → Underway s o p u
  noted : Notes o (pending_at (process_at s u) p) → Underway s o p u
  replied : Any (Replies o) (waiting_at s u p) → Underway s o p u
  marked : has (variables_at s p).acks u ≡ true → Underway s o p u

-- and once it is agreed
pub data Concluded (s : System) (v o p u : ℕ) : Type 0 where
  announced : Any (Concludes v o) (waiting_at s p u) → Concluded s v o p u
  written : entry_in s u o ≡ v → Concluded s v o p u

-- one or the other, for all processes of the view at once
abbrev pub Pursued : (ℕ → Bool) → System → ℕ → ℕ → ℕ → Type 0
Pursued gone s v o p =
    ((u : ℕ) → has v u ≡ true → gone u ≡ false → Underway s o p u) ⊎ ((u : ℕ) → has v u ≡ true → gone u ≡ false → Concluded s v o p u)

pub record Pursuit (gone : ℕ → Bool) (s : System) : Type 0 where
  -- who has not stopped at any time has not stopped
  pub live : (k : ℕ) → gone k ≡ false → (variables_at s k).crashed ≡ false
  -- not all of the proposed view are marked: then the Commit would have gone out, and the marks would be cleared
  pub incomplete : (p : ℕ) → ((variables_at s p).proposal ≡ 0 → ⊥) → subset (variables_at s p).proposal (variables_at s p).acks ≡ false
  pub pursued : (p : ℕ) → gone p ≡ false → ((variables_at s p).proposal ≡ 0 → ⊥) → (least_of (variables_at s p).view).0 ≡ p
      → Pursued gone s (variables_at s p).proposal (variables_at s p).propout.0 p

-- ---- an effect, after which the same proposal is pursued
-- a message about to be lost, and those that are left
abbrev pub Losing : System → (ℕ → ℕ → List Message) → ((Message → Type 0) → ℕ → ℕ → Type 0) → Type 1
Losing s left Lost = (P : Message → Type 0) (a b : ℕ) → Any P (waiting_at s a b) → Any P (left a b) ⊎ Lost P a b

-- nothing is taken
abbrev pub NoLoss : (Message → Type 0) → ℕ → ℕ → Type 0
NoLoss P a b = ⊥

pub none_lost : (s : System) → Losing s (waiting_at s) NoLoss
none_lost s P a b e = inl e

module _ {s t : System} {left : ℕ → ℕ → List Message} {a : ℕ} {c : Change} {stops : Bool} {to : ℕ} {m : Message} (f : Effect s t left a c stops to m)
    {Lost : (Message → Type 0) → ℕ → ℕ → Type 0}
    (losing : Losing s left Lost) where
  underway_kept : (o p u : ℕ) → (variables_at t p).crashed ≡ false → (variables_at t u).crashed ≡ false → (Lost (Asks o) p u → Underway t o p u)
      → (Lost (Replies o) u p → Underway t o p u)
      → (Notes o (pending_at (process_at s u) p) → Underway t o p u)
      → (has (variables_at s p).acks u ≡ true → has (variables_at t p).acks u ≡ true)
      → Underway s o p u
      → Underway t o p u
  underway_kept o p u live_p live-u asks replies notes acks (asked e) =
      ⊎_elim (λ h. asked (some_kept f (Asks o) p u live-u h)) asks (losing (Asks o) p u e)
  underway_kept o p u live_p live-u asks replies notes acks (noted e) = notes e
  underway_kept o p u live_p live-u asks replies notes acks (replied e) =
      ⊎_elim (λ h. replied (some_kept f (Replies o) u p live_p h)) replies (losing (Replies o) u p e)
  underway_kept o p u live_p live-u asks replies notes acks (marked e) = marked (acks e)

  concluded_kept : (v o p u : ℕ) → (variables_at t u).crashed ≡ false → (v ≡ 0 → ⊥) → Since s t → (Lost (Concludes v o) p u → Concluded t v o p u)
      → Concluded s v o p u
      → Concluded t v o p u
  concluded_kept v o p u live-u some since concludes (announced e) =
      ⊎_elim (λ h. announced (some_kept f (Concludes v o) p u live-u h)) concludes (losing (Concludes v o) p u e)
  concluded_kept v o p u live-u some since concludes (written e) = written (since.written u o (λ z. some (sym e ∙ z)) ∙ e)

-- ---- a step, in which nobody who was gone comes back
pub record Staying (gone then : ℕ → Bool) (t : System) : Type 0 where
  pub still : (k : ℕ) → then k ≡ false → gone k ≡ false
  pub live : (k : ℕ) → then k ≡ false → (variables_at t k).crashed ≡ false

module _ {gone then : ℕ → Bool} {s t : System} (g : Staying gone then t) (since : Since s t) (w : Pursuit gone s) where
  pub pursue : {left : ℕ → ℕ → List Message} {a : ℕ} {c : Change} {stops : Bool} {to : ℕ} {m : Message} → Effect s t left a c stops to m
      → {Lost : (Message → Type 0) → ℕ → ℕ → Type 0}
      → Losing s left Lost
      → (p : ℕ)
      → then p ≡ false
      → ((variables_at t p).proposal ≡ 0 → ⊥)
      → (least_of (variables_at t p).view).0 ≡ p
      → Steady s t p
      → ((u : ℕ) → then u ≡ false → Lost (Asks (variables_at s p).propout.0) p u → Underway t (variables_at s p).propout.0 p u)
      → ((u : ℕ) → then u ≡ false → Lost (Replies (variables_at s p).propout.0) u p → Underway t (variables_at s p).propout.0 p u)
      → ((u : ℕ) → then u ≡ false → Notes (variables_at s p).propout.0 (pending_at (process_at s u) p) → Underway t (variables_at s p).propout.0 p u)
      → ((u : ℕ) → has (variables_at s p).acks u ≡ true → has (variables_at t p).acks u ≡ true)
      → ((u : ℕ) → Lost (Concludes (variables_at s p).proposal (variables_at s p).propout.0) p u
      → Concluded t (variables_at s p).proposal (variables_at s p).propout.0 p u)
      → Pursued then t (variables_at t p).proposal (variables_at t p).propout.0 p
  pursue f losing p stays some least steady asks replies notes acks concludes =
      let v = (variables_at s p).proposal in
      let o = (variables_at s p).propout.0 in
      let was : v ≡ 0 → ⊥ = λ e. some (steady.proposal ∙ e) in
      subst (λ (x : ℕ). Pursued then t x (variables_at t p).propout.0 p) (sym steady.proposal)
      (subst (λ (i : GroupIndex). Pursued then t v i.0 p) (sym steady.propout)
      (⊎_elim
      (λ under. inl (λ u named lasts. underway_kept f losing o p u (g.live p stays) (g.live u lasts) (asks u lasts) (replies u lasts) (notes u lasts) (acks u) (under u named (g.still u lasts))))
      (λ done. inr (λ u named lasts. concluded_kept f losing v o p u (g.live u lasts) was since (concludes u) (done u named (g.still u lasts))))
      (w.pursued p (g.still p stays) was (subst (λ (x : ℕ). (least_of x).0 ≡ p) steady.view least))))

  -- the message of this step goes to every process of the view
  pub reaching : {left : ℕ → ℕ → List Message} {a : ℕ} {c : Change} {stops : Bool} {to : ℕ} {m : Message} → Effect s t left a c stops to m
      → then a ≡ false
      → (P : Message → Type 0)
      → P m
      → (u : ℕ)
      → has to u ≡ true
      → then u ≡ false
      → Any P (waiting_at t a u)
  reaching {left} {a} {m = m} f stays P h u named lasts =
      let on = live_goes_on f (g.live a stays) in
      subst (Any P) (sym (f.sent u (f.whole on u named) (w.live u (g.still u lasts)) (λ e. on))) (Any-push P (left a u) m h)
