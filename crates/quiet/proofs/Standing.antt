-- Where a process stands that is the least of its local view: what it has proposed, and what those that accepted it may still do. Each
-- turn keeps it. "Gone" is who has stopped at some time; of those nothing is said.
use Prim.Native.Nat.{ℕ, ◌≤◌, ◌<◌, ◌+◌}
use mathlib.Core.Path.{◌≡◌, sym, ◌∙◌, ap, subst}
use mathlib.Core.Bool.{Bool, true, false}
use mathlib.Core.List.{List, [], ◌∷◌, ◌++◌}
use mathlib.Core.Logic.{⊎_elim}
use native.Mathlib.Omega.{arith}
use Rattle.view.specs.declared.GroupIndex.{GroupIndex}
use Rattle.view.specs.View.{has, everyone, least_of}
use Rattle.view.proofs.Laws.{by_number, true_is_not_false}
use Rattle.system.specs.declared.Variables.{Variables}
use Rattle.system.specs.declared.System.{System}
use Rattle.system.specs.System.{variables_at, may_trust}
use Rattle.step.proofs.Cases.{SameTrust}
use Rattle.agreement.specs.Accepted.{Acceptance, accepted}
use Rattle.agreement.proofs.Acceptances.{Same, last_or_before}
use Rattle.agreement.proofs.Invariant.{Reached}
use Rattle.view.proofs.Members.{least_named}
use Rattle.quiet.proofs.Turns.{Renewed, Steady, same_steady, Bringing, Turn, new_view_lem, new_index, new_acceptance, nothing_new, Taking}

-- ---- process u has accepted what p proposed last, and p is the least of its local view
pub record Followed (gone : ℕ → Bool) (s : System) (acc : List Acceptance) (p u : ℕ) : Type 0 where
  pub leader_stays : gone p ≡ false
  pub stays : gone u ≡ false
  pub apart : u ≡ p → ⊥
  pub least : (least_of (variables_at s p).view).0 ≡ p
  pub accepts : accepted acc u (variables_at s p).view (variables_at s p).propout.0 ≡ true

-- then u may not trust p again while its view lacks p, and past PropOut of p it has accepted only views with p
pub record Loyal (s : System) (acc : List Acceptance) (p u : ℕ) : Type 0 where
  pub untrusted : has (variables_at s u).view p ≡ false → may_trust s u p ≡ false
  pub included : has (variables_at s u).view p ≡ true → (w j : ℕ) → (variables_at s p).propout.0 < j → accepted acc u w j ≡ true → has w p ≡ true

-- the view of all, at PropOut 1
pub record Untouched (n : ℕ) (x : Variables) : Type 0 where
  pub first : x.propout.0 ≡ 1
  pub all : x.view ≡ everyone n

pub record Standing (gone : ℕ → Bool) (s : System) (acc : List Acceptance) : Type 0 where
  -- what is accepted was proposed by the least process of the view
  pub reaches : (u w i : ℕ) → accepted acc u w i ≡ true → i ≤ (variables_at s (least_of w).0).propout.0
  -- who has proposed nothing, and is the least of its local view, has never reported
  pub untouched : (p : ℕ) → 1 ≤ p → gone p ≡ false → (variables_at s p).proposal ≡ 0 → (least_of (variables_at s p).view).0 ≡ p
      → Untouched s.n (variables_at s p)
  pub loyal : (p u : ℕ) → Followed gone s acc p u → Loyal s acc p u
  -- who has accepted its own last proposal has accepted nothing since
  pub next : (p : ℕ) → gone p ≡ false → (least_of (variables_at s p).view).0 ≡ p
      → accepted acc p (variables_at s p).view (variables_at s p).propout.0 ≡ true
      → (variables_at s p).next.0 ≡ (variables_at s p).propout.0 + 1

-- ---- a turn, in which nobody who was gone comes back
module _ {gone then : ℕ → Bool} (still-gone : (k : ℕ) → then k ≡ false → gone k ≡ false) {s t : System} {acc new : List Acceptance} {a : ℕ}
    (r : Reached s acc)
    (z : Standing gone s acc)
    (k : Taking s t acc new a) where
  -- a process other than a
  other : (j : ℕ) → (j ≡ a → ⊥) → (P : Variables → Variables → Type 0) → P (variables_at s j) (variables_at s j) → P (variables_at s j) (variables_at t j)
  other j h P = grind arith

  turn_reaches : (u w i : ℕ) → accepted new u w i ≡ true → i ≤ (variables_at t (least_of w).0).propout.0
  turn_reaches u w i e = grind (arith, last_or_before)

  -- ---- who is the least of its local view: it has just proposed, or nothing of it is new
  steady_other : (j : ℕ) → (j ≡ a → ⊥) → Steady s t j
  steady_other j h = same_steady (k.others j h)

  -- if somebody has accepted what it proposed last, nothing of it is new
  leader_steady : (p u : ℕ) → (least_of (variables_at t p).view).0 ≡ p → accepted new u (variables_at t p).view (variables_at t p).propout.0 ≡ true → Steady s t p
  leader_steady p u least e = grind arith

  module _ (p : ℕ) (steady : Steady s t p) where
    least_before : (least_of (variables_at t p).view).0 ≡ p → (least_of (variables_at s p).view).0 ≡ p
    least_before least = subst (λ (v : ℕ). (least_of v).0 ≡ p) steady.view least

    accepts_before : (u : ℕ) → accepted new u (variables_at t p).view (variables_at t p).propout.0 ≡ true
        → accepted new u (variables_at s p).view (variables_at s p).propout.0 ≡ true
    accepts_before u e = grind (arith, steady)

  -- ---- Next of who has accepted its own last proposal
  -- the others have accepted nothing more
  others_accepted : (u w i : ℕ) → (u ≡ a → ⊥) → accepted new u w i ≡ true → accepted acc u w i ≡ true
  others_accepted u w i h e = grind (arith, last_or_before)

  -- a process that nothing new is of has not renewed its proposal
  not_renewed : (p : ℕ) → Steady s t p → Renewed s t p → ⊥
  not_renewed p steady renewed = grind arith

  next_own : Steady s t a → gone a ≡ false → (least_of (variables_at s a).view).0 ≡ a
      → accepted new a (variables_at s a).view (variables_at s a).propout.0 ≡ true
      → Turn s t acc new a
      → (variables_at t a).next.0 ≡ (variables_at s a).propout.0 + 1
  next_own steady stays least e (new_view_lem up renewed bringing same) = grind arith
  next_own steady stays least e (new_index renewed view trust same) = absurd (not_renewed a steady renewed)
  next_own steady stays least e (new_acceptance j unchanged member free next proposed trust one) = grind (arith, last_or_before)
  next_own steady stays least e (nothing_new unchanged next trust same) = grind arith

  turn_next : (p : ℕ) → then p ≡ false → (least_of (variables_at t p).view).0 ≡ p
      → accepted new p (variables_at t p).view (variables_at t p).propout.0 ≡ true
      → (variables_at t p).next.0 ≡ (variables_at t p).propout.0 + 1
  turn_next p stays least e =
      let steady = leader_steady p p least e in
      let stayed = still-gone p stays in
      let led = least_before p steady least in
      let did = accepts_before p steady p e in
      let same : (variables_at t p).next.0 ≡ (variables_at s p).propout.0 + 1 =
      by_number p a
      (λ i.
      subst (λ (j : ℕ). (variables_at t j).next.0 ≡ (variables_at s j).propout.0 + 1) (sym i)
      (next_own (subst (Steady s t) i steady) (rw i at stayed) (subst (λ (j : ℕ). (least_of (variables_at s j).view).0 ≡ j) i led)
      (subst (λ (j : ℕ). accepted new j (variables_at s j).view (variables_at s j).propout.0 ≡ true) i did)
      k.turn))
      (λ h. other p h (λ x y. y.next.0 ≡ x.propout.0 + 1) (z.next p stayed led (others_accepted p _ _ h did))) in
      omega (arith, same, ap (λ (i : GroupIndex). i.0) steady.propout)

  -- ---- those that have accepted what p proposed last
  module _ (p u : ℕ) (f : Followed then t new p u) where
    steady : Steady s t p
    steady = leader_steady p u f.least f.accepts

    followed : accepted acc u (variables_at s p).view (variables_at s p).propout.0 ≡ true → Followed gone s acc p u
    followed e = grind (arith, least_before, steady)

    before : accepted new u (variables_at s p).view (variables_at s p).propout.0 ≡ true
    before = accepts_before p steady u f.accepts

    past : (j : ℕ) → (variables_at t p).propout.0 < j → (variables_at s p).propout.0 < j
    past j l = omega (arith, ap (λ (i : GroupIndex). i.0) steady.propout)

    -- nothing of u is new, nor the mark of p
    unchanged : accepted acc u (variables_at s p).view (variables_at s p).propout.0 ≡ true → (variables_at t u).view ≡ (variables_at s u).view
        → may_trust t u p ≡ may_trust s u p
        → ((w j : ℕ) → accepted new u w j ≡ true → accepted acc u w j ≡ true)
        → Loyal t new p u
    unchanged e view trust old = grind (arith, followed, past)

    -- u is told a view: if p leaves it, p's own view has u; and p is not brought back
    reporting : u ≡ a → Bringing s t a (variables_at t a).view → new ≡ acc → Loyal t new p u
    reporting i b same = grind (arith, before, followed, true_is_not_false, past)

    -- u accepts its local view at index i
    accepting : u ≡ a → (i : ℕ) → Steady s t a → has (variables_at s a).view a ≡ true → (variables_at s a).next.0 ≤ i → SameTrust s t
        → new ≡ acc ++ (record { process = a; view = (variables_at s a).view; index = i } ∷ [])
        → Loyal t new p u
    accepting x i own member free trust one =
        ⊎_elim old now (last_or_before acc _ u (variables_at s p).view (variables_at s p).propout.0 (rw one at before))
      where
        view : (variables_at t u).view ≡ (variables_at s u).view
        view = subst (λ (j : ℕ). (variables_at t j).view ≡ (variables_at s j).view) (sym x) own.view

        this : Acceptance
        this = record { process = a; view = (variables_at s a).view; index = i }

        -- it had accepted what p proposed last: now it accepts a view with p
        old : accepted acc u (variables_at s p).view (variables_at s p).propout.0 ≡ true → Loyal t new p u
        old e =
            let l = z.loyal p u (followed e) in
            record {
              untrusted = λ lacks. trust u p ∙ l.untrusted (rw view at lacks);
              included = λ named w j above took.
                  ⊎_elim (l.included (rw view at named) w j (past j above))
                  (λ (same : Same this u w j). rw (same.view, ← x, ← view) named)
                  (last_or_before acc this u w j (rw one at took));
            }

        -- or does so now: it has accepted nothing past it
        now : Same this u (variables_at s p).view (variables_at s p).propout.0 → Loyal t new p u
        now same =
            record {
              untrusted = λ lacks. true_is_not_false (sym with_p ∙ lacks);
              included = λ named w j above took.
                  ⊎_elim
                  (λ e. absurd (omega (arith, past j above, same.index, free, subst (λ (m : ℕ). j < (variables_at s m).next.0) x (r.passed u w j e))))
                  (λ (again : Same this u w j). absurd (omega (arith, past j above, same.index, again.index)))
                  (last_or_before acc this u w j (rw one at took));
            }
          where
            with_p : has (variables_at t u).view p ≡ true
            with_p =
                let at-u : (variables_at t u).view ≡ (variables_at s p).view = view ∙ ap (λ (j : ℕ). (variables_at s j).view) x ∙ sym same.view in
                rw at-u
                (subst (λ (j : ℕ). has (variables_at s p).view j ≡ true) (least_before p steady f.least)
                (least_named (variables_at s p).view a (rw same.view member)))

  turn_loyal : (p u : ℕ) → Followed then t new p u → Loyal t new p u
  turn_loyal p u f = go k.turn
    where
      same_acc : new ≡ acc → accepted acc u (variables_at s p).view (variables_at s p).propout.0 ≡ true
      same_acc same = rw same at (before p u f)

      same_views : (variables_at t a).view ≡ (variables_at s a).view → (variables_at t u).view ≡ (variables_at s u).view
      same_views own =
          by_number u a
          (λ i. subst (λ (j : ℕ). (variables_at t j).view ≡ (variables_at s j).view) (sym i) own)
          (λ h. (steady_other u h).view)

      go : Turn s t acc new a → Loyal t new p u
      go (new_view_lem up renewed bringing same) =
          by_number u a (λ i. reporting p u f i bringing same)
          (λ h.
          unchanged p u f (same_acc same) (steady_other u h).view
          (bringing.doubts.rest u p (λ i. absurd (h i))
          (λ i.
          absurd
          (not_renewed a (subst (Steady s t) i (steady p u f)) (renewed (subst (λ (j : ℕ). (least_of (variables_at t j).view).0 ≡ j) i f.least)))))
          (λ w j e. rw same at e))
      go (new_index renewed view trust same) = unchanged p u f (same_acc same) (same_views view) (trust u p) (λ w j e. rw same at e)
      go (new_acceptance j own member free next proposed trust one) =
          by_number u a (λ i. accepting p u f i j own member free trust one)
          (λ h. unchanged p u f (others_accepted u _ _ h (before p u f)) (same_views own.view) (trust u p) (λ w i. others_accepted u w i h))
      go (nothing_new own next trust same) = unchanged p u f (same_acc same) (same_views own.view) (trust u p) (λ w j e. rw same at e)

  pub turn_standing : Standing then t new
  turn_standing = grind (arith, turn_reaches, turn_loyal, turn_next)
