-- Laws of sums of tallies, and of sums as the program keeps them.
use Prim.Native.Nat.{ℕ, ◌+◌, ◌≤◌}
use mathlib.Core.Path.{◌≡◌, refl}
use native.Mathlib.Omega.{arith}
use Rattle.tallies.specs.declared.Tally.{Tally}
use Rattle.tallies.specs.Tally.{no_tally, plus, capped}

abbrev tally_with : ℕ → ℕ → ℕ → ℕ → ℕ → ℕ → Tally
tally_with sent taken waiting lost proposals committed =
    record { sent = sent; taken = taken; waiting = waiting; lost = lost; proposals = proposals; committed = committed }

-- tallies that agree count by count
pub same_tally : (a b : Tally) → a.sent ≡ b.sent → a.taken ≡ b.taken → a.waiting ≡ b.waiting → a.lost ≡ b.lost
    → a.proposals ≡ b.proposals
    → a.committed ≡ b.committed
    → a ≡ b
same_tally a b sent taken waiting lost proposals committed =
    let left : a ≡ tally_with a.sent a.taken a.waiting a.lost a.proposals a.committed = refl in
    let right : b ≡ tally_with b.sent b.taken b.waiting b.lost b.proposals b.committed = refl in
    cc

pub plus_none : (a : Tally) → plus a no_tally ≡ a
unfolding plus no_tally
plus_none a = same_tally _ a (omega arith) (omega arith) (omega arith) (omega arith) (omega arith) (omega arith)

pub none_plus : (a : Tally) → plus no_tally a ≡ a
unfolding plus no_tally
none_plus a = same_tally _ a (omega arith) (omega arith) (omega arith) (omega arith) (omega arith) (omega arith)

pub plus-plus : (a b c : Tally) → plus (plus a b) c ≡ plus a (plus b c)
unfolding plus
plus-plus a b c = same_tally _ _ (omega arith) (omega arith) (omega arith) (omega arith) (omega arith) (omega arith)

-- a sum that is kept on the way is the sum that is kept at the end
pub kept_on_the_way : (a b : Tally) → capped (plus (capped a) b) ≡ capped (plus a b)
unfolding plus capped
kept_on_the_way a b = same_tally _ _ (omega arith) (omega arith) (omega arith) (omega arith) (omega arith) (omega arith)

pub kept_added : (a b : Tally) → capped (plus a (capped b)) ≡ capped (plus a b)
unfolding plus capped
kept_added a b = same_tally _ _ (omega arith) (omega arith) (omega arith) (omega arith) (omega arith) (omega arith)

pub kept_twice : (a : Tally) → capped (capped a) ≡ capped a
unfolding capped
kept_twice a = same_tally _ _ (omega arith) (omega arith) (omega arith) (omega arith) (omega arith) (omega arith)

pub none_kept : capped no_tally ≡ no_tally
unfolding capped no_tally
none_kept = refl

-- each count is at most k
pub record CountsAtMost (k : ℕ) (a : Tally) : Type 0 where
  pub sent : a.sent ≤ k
  pub taken : a.taken ≤ k
  pub waiting : a.waiting ≤ k
  pub lost : a.lost ≤ k
  pub proposals : a.proposals ≤ k
  pub committed : a.committed ≤ k

pub kept_whole : (k : ℕ) (a : Tally) → CountsAtMost k a → k ≤ 18446744073709551615 → capped a ≡ a
unfolding capped
kept_whole k a small fits =
    same_tally _ _ (omega (arith, small.sent)) (omega (arith, small.taken)) (omega (arith, small.waiting)) (omega (arith, small.lost))
    (omega (arith, small.proposals)) (omega (arith, small.committed))

pub none_at_most : (k : ℕ) → CountsAtMost k no_tally
unfolding no_tally
none_at_most k =
    record {
      sent = omega arith;
      taken = omega arith;
      waiting = omega arith;
      lost = omega arith;
      proposals = omega arith;
      committed = omega arith;
    }

pub plus_at_most : (j k : ℕ) (a b : Tally) → CountsAtMost j a → CountsAtMost k b → CountsAtMost (j + k) (plus a b)
unfolding plus
plus_at_most j k a b x y =
    record {
      sent = omega (arith, x.sent, y.sent);
      taken = omega (arith, x.taken, y.taken);
      waiting = omega (arith, x.waiting, y.waiting);
      lost = omega (arith, x.lost, y.lost);
      proposals = omega (arith, x.proposals, y.proposals);
      committed = omega (arith, x.committed, y.committed);
    }
