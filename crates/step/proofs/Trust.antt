-- What a report does to each mark of S-5, and that nothing else changes one.
use Prim.Native.Nat.{ℕ, zero, suc, ◌≤◌, ◌<◌}
use mathlib.Core.Path.{◌≡◌, refl, sym, ◌∙◌, ap, subst}
use mathlib.Core.Bool.{Bool, true, false, not}
use mathlib.Core.List.{List}
use native.Mathlib.Omega.{arith}
use lib.ListN.{length}
use Rattle.view.specs.Logic.{each_up_to, at}
use Rattle.view.specs.View.{has, within, subset, minus, everyone}
use Rattle.view.specs.Logic.{pick}
use Rattle.view.proofs.Laws.{at_put_same, at_put_other, length-put, by_pick, by_number, by_test, each_same, each_keeps, true_is_not_false}
use Rattle.view.proofs.Sets.{has_number, has_none, has_inside, subset-has, has-minus, switched_same, switched_other, everyone-has}
use Rattle.channel.specs.declared.Message.{Message}
use Rattle.system.specs.declared.System.{System}
use Rattle.system.specs.System.{process_at, variables_at, with_process, with_channel, trust_at, may_trust, with_trust, trusting, sent, sent_if_named, broadcasted}
use Rattle.plan.specs.declared.Scope.{Scope}
use Rattle.plan.specs.Plan.{Planned}
use Rattle.step.specs.Step.{taken_off, departed, suspected_if_named, doubted, changed_at, emptied_from, crashed_at, crashed_if, effected}
use Rattle.step.proofs.Frames.{Shape, Numbered}
use Rattle.step.proofs.Cases.{Known, SameTrust, Doubts}

-- the mark (a, b) in the sets of all processes
abbrev mark_in : List ℕ → ℕ → ℕ → Bool
mark_in l a b = has (at l a 0) b

-- ---- one mark is set
module _ (l : List ℕ) (long : length l ≡ 8) (p q : ℕ) (from : Numbered p) (to : Numbered q) (on : Bool) where
  set_same : mark_in (trusting l p q on) p q ≡ on
  unfolding trusting
  set_same = grind (arith, at_put_same, switched_same)

  set_other : (a b : ℕ) → ((a ≡ p) × (b ≡ q) → ⊥) → mark_in (trusting l p q on) a b ≡ mark_in l a b
  unfolding trusting
  set_other a b n = grind (arith, at_put_same, switched_other, at_put_other)

  set_long : length (trusting l p q on) ≡ 8
  unfolding trusting
  set_long = length-put l p _ ∙ long

-- ---- process p comes to lack those of a set, to which it does not belong: once each of 1 to k has had its turn
pub record Lacked (s : System) (p d k : ℕ) (l : List ℕ) : Type 0 where
  pub long : length l ≡ 8
  pub begins : (b : ℕ) → b ≤ k → has d b ≡ true → has (variables_at s p).view b ≡ true → mark_in l p b ≡ not (has (variables_at s b).view p)
  pub turns : (a : ℕ) → a ≤ k → has d a ≡ true → mark_in l a p ≡ true
  pub rest : (a b : ℕ) → (a ≡ p → b ≤ k → has d b ≡ true → has (variables_at s p).view b ≡ true → ⊥)
      → (b ≡ p → a ≤ k → has d a ≡ true → ⊥)
      → mark_in l a b ≡ mark_in s.trust a b

module _ (s : System) (shape : Shape s) (p : ℕ) (number : Numbered p) where
  -- one process leaves the view, where it is there
  record Departed (l : List ℕ) (q : ℕ) (m : List ℕ) : Type 0 where
    long : length m ≡ 8
    begun : has (variables_at s p).view q ≡ true → mark_in m p q ≡ not (has (variables_at s q).view p)
    same : (a b : ℕ) → (a ≡ p → b ≡ q → has (variables_at s p).view q ≡ true → ⊥) → mark_in m a b ≡ mark_in l a b

  departs : (l : List ℕ) → length l ≡ 8 → (q : ℕ) → Numbered q → Departed l q (departed s p q l)
  unfolding departed pick
  departs l long q to = grind (arith, set_long, set_same, set_other)

  module _ (d : ℕ) (apart : has d p ≡ false) where
    passed_over : (k : ℕ) (l : List ℕ) → has d (suc k) ≡ false → Lacked s p d k l → Lacked s p d (suc k) l
    passed_over k l none w =
        record {
          long = w.long;
          begins = λ b h named there.
              by_number b (suc k)
              (λ e. true_is_not_false (sym (subst (λ (j : ℕ). has d j ≡ true) e named) ∙ none))
              (λ n. w.begins b (omega arith) named there);
          turns = λ a h named.
              by_number a (suc k)
              (λ e. true_is_not_false (sym (subst (λ (j : ℕ). has d j ≡ true) e named) ∙ none))
              (λ n. w.turns a (omega arith) named);
          rest = λ a b x y. w.rest a b (λ e h. x e (omega arith)) (λ e h. y e (omega arith));
        }

    lacked_one : (k : ℕ) (l : List ℕ) → k < 8 → has d (suc k) ≡ true → Lacked s p d k l → Lacked s p d (suc k) (trusting (departed s p (suc k) l) (suc k) p true)
    lacked_one k l below named w =
        let to : Numbered (suc k) = record { low = omega arith; high = below } in
        let m = departed s p (suc k) l in
        let f = departs l w.long (suc k) to in
        let other : p ≡ suc k → ⊥ = λ e. true_is_not_false (sym (subst (λ (j : ℕ). has d j ≡ true) (sym e) named) ∙ apart) in
        let still = set_other m f.long (suc k) p to number true in
        record {
          long = set_long m f.long (suc k) p to number true;
          begins = λ b h x there.
              by_number b (suc k)
              (λ e.
              subst (λ (j : ℕ). mark_in (trusting m (suc k) p true) p j ≡ not (has (variables_at s j).view p)) (sym e)
              (still p (suc k) (λ z. other z.0) ∙ f.begun (subst (λ (j : ℕ). has (variables_at s p).view j ≡ true) e there)))
              (λ n. still p b (λ z. other z.0) ∙ f.same p b (λ i j. absurd (n j)) ∙ w.begins b (omega arith) x there);
          turns = λ a h x.
              by_number a (suc k)
              (λ e. subst (λ (j : ℕ). mark_in (trusting m (suc k) p true) j p ≡ true) (sym e) (set_same m f.long (suc k) p to number true))
              (λ n. still a p (λ z. n z.0) ∙ f.same a p (λ i j. absurd (other j)) ∙ w.turns a (omega arith) x);
          rest = λ a b x y.
              still a b (λ z. y z.1 (omega (arith, z.0)) (subst (λ (j : ℕ). has d j ≡ true) (sym z.0) named))
              ∙ f.same a b
              (λ i j there.
              x i (omega arith) (subst (λ (e : ℕ). has d e ≡ true) (sym j) named) (subst (λ (e : ℕ). has (variables_at s p).view e ≡ true) (sym j) there))
              ∙ w.rest a b (λ e h. x e (omega arith)) (λ e h. y e (omega arith));
        }

    lacked_up_to : (k : ℕ) → k ≤ 8 → Lacked s p d k (each_up_to k (suspected_if_named s p d) s.trust)
    unfolding each_up_to suspected_if_named
    lacked_up_to zero h =
        record {
          long = shape.trust;
          begins = λ b l named. absurd (omega (arith, has_number d b named));
          turns = λ a l named. absurd (omega (arith, has_number d a named));
          rest = λ a b x y. refl;
        }
    lacked_up_to (suc k) h =
        let l = each_up_to k (suspected_if_named s p d) s.trust in
        let w = lacked_up_to k (omega arith) in
        by_pick (Lacked s p d (suc k)) (has d (suc k)) _ _ (λ named. lacked_one k l (omega arith) named w) (λ other. passed_over k l other w)

-- ---- a report: those of 1 to n that its view lacks
lacks : (n v b : ℕ) → n ≤ 8 → 1 ≤ b → b ≤ n → has v b ≡ false → has (minus (everyone n) v) b ≡ true
lacks n v b small low high gone = grind (arith, has-minus, everyone-has)

lacked_by : (n v b : ℕ) → n ≤ 8 → has (minus (everyone n) v) b ≡ true → (1 ≤ b) × (b ≤ n) × (has v b ≡ false)
lacked_by n v b small e = grind (arith, has-minus, everyone-has)

pub doubts : (s t : System) → Shape s → (p v : ℕ) → Known s p → s.n ≤ 8 → within s.n (variables_at s p).view ≡ true → has v p ≡ true
    → t.trust ≡ each_up_to 8 (suspected_if_named s p (minus (everyone s.n) v)) s.trust
    → Doubts s t p v
unfolding trust_at
doubts s t shape p v known small inside own e =
    let d = minus (everyone s.n) v in
    let apart : has d p ≡ false = by_test (has d p) (λ named. true_is_not_false (sym own ∙ (lacked_by s.n v p small named).2)) (λ z. z) in
    let w = lacked_up_to s shape p (record { low = known.low; high = known.eight }) d apart 8 (omega arith) in
    let after : (a b : ℕ) → may_trust t a b ≡ mark_in (each_up_to 8 (suspected_if_named s p d) s.trust) a b = λ a b. ap (λ (l : List ℕ). mark_in l a b) e in
    record {
      begins = λ b there gone.
          let j = has_number (variables_at s p).view b there in
          after p b ∙ w.begins b j.1 (lacks s.n v b small j.0 (has_inside s.n (variables_at s p).view b inside there) gone) there;
      turns = λ a low high gone. after a p ∙ w.turns a (omega arith) (lacks s.n v a small low high gone);
      rest = λ a b x y.
          after a b
          ∙ w.rest a b
          (λ same h named there. x same there (lacked_by s.n v b small named).2)
          (λ same h named. let f = lacked_by s.n v a small named in y same f.0 f.1 f.2);
    }

-- whom the view brings back
pub brought_back : (s : System) (p v : ℕ) → subset (minus v (variables_at s p).view) (trust_at s p) ≡ true
    → (b : ℕ)
    → has v b ≡ true
    → has (variables_at s p).view b ≡ false
    → may_trust s p b ≡ true
brought_back s p v e b named new = grind (arith, subset-has, has-minus)

-- ---- any other plan suspects nobody
pub same_trust : (s t : System) (p : ℕ) → t.trust ≡ each_up_to 8 (suspected_if_named s p 0) s.trust → SameTrust s t
unfolding trust_at suspected_if_named pick
same_trust s t p e a b = grind (arith, each_same, has_none)

-- ---- the sets once a plan is carried out
broadcast_trust : (s : System) (p to : ℕ) (m : Message) → (broadcasted s p to m).trust ≡ s.trust
unfolding broadcasted sent_if_named sent with_channel
broadcast_trust s p to m =
    each_keeps (λ (t : System). t.trust ≡ s.trust) 8 (sent_if_named p to m)
    (λ k l h t e.
    by_pick (λ (u : System). u.trust ≡ s.trust) (has to k) _ _
    (λ named. by_pick (λ (u : System). u.trust ≡ s.trust) (variables_at t k).crashed _ _ (λ x. e) (λ x. e))
    (λ other. e))
    s
    refl

crash_trust : (s : System) (p : ℕ) → (crashed_at s p).trust ≡ s.trust
unfolding crashed_at emptied_from with_channel with_process
crash_trust s p = each_keeps (λ (t : System). t.trust ≡ s.trust) 8 (emptied_from p) (λ k l h t e. e) _ refl

doubted_trust : (s : System) (c : Scope) (p d : ℕ) → (doubted (taken_off s c) p d).trust ≡ each_up_to 8 (suspected_if_named s p d) s.trust
unfolding doubted with_trust taken_off suspected_if_named departed process_at with_channel pick
doubted_trust s c p d = grind arith

pub effect_trust : (s : System) (c : Scope) (p : ℕ) (a : Planned)
    → (effected (taken_off s c) p a).trust ≡ each_up_to 8 (suspected_if_named s p a.suspects) s.trust
unfolding effected crashed_if changed_at with_process pick
effect_trust s c p a = grind (arith, crash_trust, broadcast_trust, doubted_trust)
