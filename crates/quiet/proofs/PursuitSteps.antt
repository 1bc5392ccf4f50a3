-- Each transition keeps what is so of the last proposals.
use Prim.Native.Nat.{ℕ, ◌≤◌}
use mathlib.Core.Path.{◌≡◌, refl, sym, ◌∙◌, subst}
use mathlib.Core.Bool.{Bool, true, false}
use mathlib.Core.List.{List}
use mathlib.Core.Logic.{inl, inr}
use native.Mathlib.Omega.{arith}
use Rattle.std.specs.Prelude.{None, Some, Any}
use Rattle.view.specs.declared.ProcessId.{ProcessId}
use Rattle.view.specs.declared.GroupIndex.{GroupIndex}
use Rattle.view.specs.View.{has, subset, with, least_of}
use Rattle.view.proofs.Laws.{by_number, by_test}
use Rattle.view.proofs.Sets.{has_none, not_empty, subset-has, with_new, with_old}
use Rattle.channel.specs.declared.Message.{Message}
use Rattle.channel.specs.declared.Message.TheVariants.{Propose}
use Rattle.system.specs.declared.Variables.{Variables}
use Rattle.system.specs.declared.System.{System}
use Rattle.system.specs.Process.{pending_at, Pending, proposal_at}
use Rattle.system.specs.System.{process_at, variables_at}
use Rattle.plan.specs.declared.Change.{Change}
use Rattle.plan.specs.declared.Action.{Action}
use Rattle.plan.specs.declared.Action.TheVariants.{Report, Receive, Respond, Crash}
use Rattle.step.proofs.Cases.{waiting_at, Known, Taken, afterwards, Effect, Marking, present, stale, Records, Transition, proposes, follows, records, reproposes, ignores, marks, commits, enters, accepts, declines, crashes}
use Rattle.step.proofs.Effects.{entry_new}
use Rattle.agreement.specs.Accepted.{Acceptance}
use Rattle.agreement.proofs.Invariant.{Reached}
use Rattle.agreement.proofs.Changes.{Since, at_actor}
use Rattle.agreement.proofs.Steps.{honest_first}
use Rattle.quiet.proofs.Remains.{some_left, recorded_new, recorded_other, recorded_same}
use Rattle.quiet.proofs.Proposals.{Rising, index_of, Proposals}
use Rattle.quiet.proofs.Turns.{Steady, same_steady, actor_steady}
use Rattle.quiet.proofs.Pursuit.{Asks, Replies, Concludes, Notes, Underway, asked, noted, replied, marked, Concluded, announced, written, Pursued, Pursuit, none_lost, Staying, pursue, reaching}

-- nobody is marked
none_marked : (v k : ℕ) → has v k ≡ true → subset v 0 ≡ false
none_marked v k h = by_test (subset v 0) (λ e. absurd (has_none k (subset-has v 0 k e h))) (λ e. e)

noted_index : (o : ℕ) (y : Pending) → Notes o y → index_of y ≡ o
noted_index o None h = absurd h
noted_index o (Some r) h = h

-- ---- an effect
module _ {s t : System} {left : ℕ → ℕ → List Message} {a : ℕ} {c : Change} {stops : Bool} {to : ℕ} {m : Message} (f : Effect s t left a c stops to m) where
  other_steady : (p : ℕ) → (p ≡ a → ⊥) → Steady s t p
  other_steady p h = same_steady (f.others p h)

  all_steady : c.variables.view ≡ (variables_at s a).view → c.variables.propout ≡ (variables_at s a).propout
      → c.variables.proposal ≡ (variables_at s a).proposal
      → (p : ℕ)
      → Steady s t p
  all_steady view propout proposal p =
      by_number p a (λ e. subst (Steady s t) (sym e) (actor_steady f view propout proposal)) (other_steady p)

  -- the marks that there were are there
  other_acks : (p : ℕ) → (p ≡ a → ⊥) → (u : ℕ) → has (variables_at s p).acks u ≡ true → has (variables_at t p).acks u ≡ true
  other_acks p h u = grind arith

  all_acks : ((u : ℕ) → has (variables_at s a).acks u ≡ true → has c.variables.acks u ≡ true) → (p u : ℕ)
      → has (variables_at s p).acks u ≡ true
      → has (variables_at t p).acks u ≡ true
  unfolding afterwards
  all_acks more p u = grind arith

  -- not all of a proposed view are marked
  all_incomplete : {gone : ℕ → Bool} → Pursuit gone s
      → ((c.variables.proposal ≡ 0 → ⊥) → subset c.variables.proposal c.variables.acks ≡ false)
      → (p : ℕ)
      → ((variables_at t p).proposal ≡ 0 → ⊥)
      → subset (variables_at t p).proposal (variables_at t p).acks ≡ false
  unfolding afterwards
  all_incomplete w own = grind arith

-- ---- the transitions
module _ {gone then : ℕ → Bool} {s t : System} {acc : List Acceptance} (g : Staying gone then t) (r : Reached s acc) (o : Proposals s) (since : Since s t)
    (w : Pursuit gone s) where
  -- what is so of each last proposal afterwards
  abbrev Goal : ℕ → Type 0
  Goal p =
      then p ≡ false → ((variables_at t p).proposal ≡ 0 → ⊥) → (least_of (variables_at t p).view).0 ≡ p
      → Pursued then t (variables_at t p).proposal (variables_at t p).propout.0 p

  -- nothing is taken, no record is made or cleared
  dull : {a : ℕ} {c : Change} {stops : Bool} {to : ℕ} {m : Message} → Effect s t (waiting_at s) a c stops to m → c.proposer.0 ≡ 0 → (p : ℕ) → Steady s t p
      → ((u : ℕ) → has (variables_at s p).acks u ≡ true → has (variables_at t p).acks u ≡ true)
      → Goal p
  dull f none p steady acks stays some least =
      pursue g since w f (none_lost s) p stays some least steady (λ u l e. absurd e) (λ u l e. absurd e)
      (λ u l e. noted (rw (recorded_same f none u p) e))
      acks
      (λ u e. absurd e)

  -- process a proposes to all of a view
  proposing_all : {left : ℕ → ℕ → List Message} {a : ℕ} {c : Change} {stops : Bool} {v : ℕ} {i : GroupIndex} → Effect s t left a c stops v (Propose v i)
      → then a ≡ false
      → Pursued then t v i.0 a
  proposing_all f stays = inl (λ u named lasts. asked (reaching g since w f stays (Asks _) refl u named lasts))

  -- a message is taken, no record is made or cleared
  taking-one : {q a : ℕ} {one : Message} {left : ℕ → ℕ → List Message} {c : Change} {stops : Bool} {to : ℕ} {m : Message} → Taken s q a one left
      → Effect s t left a c stops to m
      → c.proposer.0 ≡ 0
      → ((i : ℕ) → Asks i one → ⊥)
      → (p : ℕ)
      → Steady s t p
      → ((u : ℕ) → has (variables_at s p).acks u ≡ true → has (variables_at t p).acks u ≡ true)
      → (p ≡ a → (u : ℕ) → u ≡ q → Replies (variables_at s p).propout.0 one → Underway t (variables_at s p).propout.0 p u)
      → ((u : ℕ) → u ≡ a → Concludes (variables_at s p).proposal (variables_at s p).propout.0 one
      → Concluded t (variables_at s p).proposal (variables_at s p).propout.0 p u)
      → Goal p
  taking-one taken f none asks p steady acks replies concludes stays some least =
      pursue g since w f (some_left taken) p stays some least steady
      (λ u l e. absurd (asks _ e.this))
      (λ u l e. replies e.to u e.from e.this)
      (λ u l e. noted (rw (recorded_same f none u p) e))
      acks
      (λ u e. concludes u e.to e.this)

  -- a proposal is taken and recorded: it is above what was recorded
  noting : {q p : ProcessId} → Records s t q p → (x : ℕ) → Goal x
  noting {q} {p} k x stays some least =
      pursue g since w k.effect (some_left k.taken) x stays some least (all_steady k.effect refl refl refl x)
      (λ u l e. noted (fresh e.to e.from e.this))
      (λ u l e. absurd e.this)
      (λ u l e.
      by_number u p.0
      (λ y. by_number x q.0 (λ z. absurd (newer y z e)) (λ n. noted (rw (recorded_other k.effect u x (λ b. n b.1)) e)))
      (λ n. noted (rw (recorded_other k.effect u x (λ b. n b.0)) e)))
      (all_acks k.effect (λ u e. e) x)
      (λ u e. absurd e.this)
    where
      new : pending_at (process_at t p.0) q.0 ≡ Some (proposal_at k.view k.index)
      new = recorded_new k.effect r.shape k.partner

      fresh : {u : ℕ} → u ≡ p.0 → x ≡ q.0 → k.index.0 ≡ (variables_at s x).propout.0 → Notes (variables_at s x).propout.0 (pending_at (process_at t u) x)
      fresh y z e = rw (y, z, new) (rw z at e)

      newer : {u : ℕ} → u ≡ p.0 → x ≡ q.0 → Notes (variables_at s x).propout.0 (pending_at (process_at s u) x) → ⊥
      newer {u} y z e =
          let at-u = subst (λ (j : ℕ). Notes (variables_at s x).propout.0 (pending_at (process_at s j) x)) y e in
          let at-q = subst (λ (j : ℕ). Notes (variables_at s j).propout.0 (pending_at (process_at s p.0) j)) z at-u in
          omega (
            arith,
            noted_index (variables_at s q.0).propout.0 (pending_at (process_at s p.0) q.0) at-q,
            (subst (Rising (index_of (pending_at (process_at s p.0) q.0))) k.taken.first (o.rising q.0 p.0)).0,
            (honest_first r k.taken).bound,
          )

  -- an answer to the recorded proposal at index i
  answering : {a q : ℕ} {c : Change} {stops : Bool} {m : Message} → Effect s t (waiting_at s) a c stops (with 0 q) m → c.proposer.0 ≡ q → Known s q
      → {v : ℕ} {i : GroupIndex}
      → pending_at (process_at s a) q ≡ Some (proposal_at v i)
      → Replies i.0 m
      → (p : ℕ)
      → Steady s t p
      → ((u : ℕ) → has (variables_at s p).acks u ≡ true → has (variables_at t p).acks u ≡ true)
      → Goal p
  answering {a} {q} {c} {m = m} f from known {i = i} recorded reply p steady acks stays some least =
      pursue g since w f (none_lost s) p stays some least steady (λ u l e. absurd e) (λ u l e. absurd e)
      (λ u l e.
      by_number u a
      (λ y. by_number p q (λ z. replied (answer u y z l e)) (λ n. noted (rw (recorded_other f u p (λ b. n (b.1 ∙ from))) e)))
      (λ n. noted (rw (recorded_other f u p (λ b. n b.0)) e)))
      acks
      (λ u e. absurd e)
    where
      answer : (u : ℕ) → u ≡ a → p ≡ q → then u ≡ false → Notes (variables_at s p).propout.0 (pending_at (process_at s u) p)
          → Any (Replies (variables_at s p).propout.0) (waiting_at t u p)
      answer u y z l e =
          let at-u = subst (λ (j : ℕ). Notes (variables_at s p).propout.0 (pending_at (process_at s j) p)) y e in
          let at-q = subst (λ (j : ℕ). Notes (variables_at s p).propout.0 (pending_at (process_at s a) j)) z at-u in
          let same : i.0 ≡ (variables_at s p).propout.0 = subst (Notes (variables_at s p).propout.0) recorded at-q in
          subst (λ (j : ℕ). Any (Replies (variables_at s p).propout.0) (waiting_at t j p)) (sym y)
          (reaching g since w f (rw y at l) (Replies (variables_at s p).propout.0) (subst (λ (j : ℕ). Replies j m) same reply) p
          (rw z (with_new 0 q known.low known.eight))
          stays)

  -- ---- ack once an Acc of q is taken
  marked_more : {x : Variables} {q i acks : ℕ} → 1 ≤ q → q ≤ 8 → Marking x q i acks → (u : ℕ) → has x.acks u ≡ true → has acks u ≡ true
  marked_more {x} {q} low high (present e a) u h = rw a (with_old x.acks q u low high h)
  marked_more low high (stale n a) u h = rw a h

  marked_new : {x : Variables} {q i acks : ℕ} → 1 ≤ q → q ≤ 8 → Marking x q i acks → i ≡ x.propout.0 → has acks q ≡ true
  marked_new {x} {q} low high (present e a) same = rw a (with_new x.acks q low high)
  marked_new low high (stale n a) same = absurd (n (sym same))

  after : {left : ℕ → ℕ → List Message} {a : ℕ} {c : Change} {stops : Bool} {to : ℕ} {m : Message} → Effect s t left a c stops to m
      → ((c.variables.proposal ≡ 0 → ⊥) → subset c.variables.proposal c.variables.acks ≡ false)
      → ((p : ℕ) → Goal p)
      → Pursuit then t
  after f incomplete goal = record { live = g.live; incomplete = all_incomplete f w incomplete; pursued = goal }

  pub transition_pursuit : (a : Action) → Transition s t a → Pursuit then t
  unfolding afterwards
  transition_pursuit (Report p v) (proposes k) =
      after k.effect (λ some. none_marked v p.0 k.own)
      (λ x.
      by_number x p.0
      (λ e.
      subst Goal (sym e)
      (λ stays some least. at_actor k.effect (λ y. Pursued then t y.proposal y.propout.0 p.0) (proposing_all k.effect stays)))
      (λ h. dull k.effect refl x (other_steady k.effect x h) (other_acks k.effect x h)))
  transition_pursuit (Report p v) (follows k) =
      after k.effect (w.incomplete p.0)
      (λ x.
      by_number x p.0
      (λ e.
      subst Goal (sym e)
      (λ stays some least. absurd (k.other (subst (λ (y : ℕ). (least_of y).0 ≡ p.0) (at_actor k.effect (λ y. y.view ≡ v) refl) least))))
      (λ h. dull k.effect refl x (other_steady k.effect x h) (other_acks k.effect x h)))
  transition_pursuit (Receive q p) (records k) = after k.effect (w.incomplete p.0) (noting k)
  transition_pursuit (Receive q p) (reproposes k) =
      let x = variables_at s p.0 in
      let same : x.proposal ≡ x.view = (r.own p.0).leads (not_empty _ p.0 k.proposed) k.least in
      after k.effect (λ some. none_marked x.proposal p.0 k.proposed)
      (λ j.
      by_number j p.0
      (λ e.
      subst Goal (sym e)
      (λ stays some least.
      at_actor k.effect (λ y. Pursued then t y.proposal y.propout.0 p.0)
      (subst (λ (v : ℕ). Pursued then t v k.new.0 p.0) (sym same) (proposing_all k.effect stays))))
      (λ h.
      taking-one k.taken k.effect refl (λ i e. e) j (other_steady k.effect j h) (other_acks k.effect j h) (λ e. absurd (h e)) (λ u y e. absurd e)))
  transition_pursuit (Receive q p) (ignores k) =
      after k.effect (w.incomplete p.0)
      (λ j stays some least.
      let steady = all_steady k.effect refl refl refl j in
      taking-one k.taken k.effect refl (λ i e. e) j steady (all_acks k.effect (λ u e. e) j)
      (λ e u from reply.
      absurd
      (k.idle (sym (subst (λ (i : ℕ). k.old.0 ≡ (variables_at s i).propout.0) e reply))
      (subst (λ (i : ℕ). (least_of (variables_at s i).view).0 ≡ i) e (subst (λ (v : ℕ). (least_of v).0 ≡ j) steady.view least))))
      (λ u y e. absurd e)
      stays
      some
      least)
  transition_pursuit (Receive q p) (marks k) =
      after k.effect k.partial
      (λ j.
      taking-one k.taken k.effect refl (λ i e. e) j (all_steady k.effect refl refl refl j)
      (all_acks k.effect (marked_more k.partner.low k.partner.eight k.marking) j)
      (λ e u from reply.
      marked
      (rw (e, from)
      (at_actor k.effect (λ y. has y.acks q.0 ≡ true)
      (marked_new k.partner.low k.partner.eight k.marking (subst (λ (i : ℕ). k.index.0 ≡ (variables_at s i).propout.0) e reply)))))
      (λ u y e. absurd e))
  transition_pursuit (Receive q p) (commits k) =
      let x = variables_at s p.0 in
      after k.effect (λ some. none_marked x.proposal p.0 k.proposed)
      (λ j.
      by_number j p.0
      (λ e.
      subst Goal (sym e)
      (λ stays some least.
      at_actor k.effect (λ y. Pursued then t y.proposal y.propout.0 p.0)
      (inr (λ u named lasts. announced (reaching g since w k.effect stays (Concludes x.proposal x.propout.0) (refl, refl) u named lasts)))))
      (λ h.
      taking-one k.taken k.effect refl (λ i e. e) j (other_steady k.effect j h) (other_acks k.effect j h) (λ e. absurd (h e)) (λ u y e. absurd e)))
  transition_pursuit (Receive q p) (enters k) =
      after k.effect (w.incomplete p.0)
      (λ j.
      taking-one k.taken k.effect refl (λ i e. e) j (all_steady k.effect refl refl refl j) (all_acks k.effect (λ u e. e) j)
      (λ e u from reply. absurd reply)
      (λ u y e.
      written
      (rw (y, ← e.1, ← e.0) (entry_new k.effect (omega (arith, k.sound.low)) (omega (arith, k.sound.high))))))
  transition_pursuit (Respond p q) (accepts k) =
      after k.effect (w.incomplete p.0)
      (λ j. answering k.effect refl k.partner k.recorded refl j (all_steady k.effect refl refl refl j) (all_acks k.effect (λ u e. e) j))
  transition_pursuit (Respond p q) (declines k) =
      after k.effect (w.incomplete p.0)
      (λ j. answering k.effect refl k.partner k.recorded refl j (all_steady k.effect refl refl refl j) (all_acks k.effect (λ u e. e) j))
  transition_pursuit (Crash p) (crashes k) =
      after k.effect (w.incomplete p.0)
      (λ j. dull k.effect refl j (all_steady k.effect refl refl refl j) (all_acks k.effect (λ u e. e) j))
