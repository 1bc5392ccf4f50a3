-- Document 01, "Tally": "The share is in lowest terms, 0/1 without proposals."
use Rattle.std.specs.Prelude.{ℕ, zero, suc, ◌*◌, ◌/◌, ◌%◌, ◌<◌, ◌≡◌}
use Rattle.std.specs.Int.{◌∣◌}
use Rattle.tallies.specs.declared.Tally.{Tally}
use Rattle.tallies.specs.declared.share.Share.{Share}

-- Euclid's rule, at most so many times: the greatest common divisor of a and b is a where b is 0, and otherwise that of b and a % b
unfoldable pub euclid : ℕ → ℕ → ℕ → ℕ
euclid zero a b = a
euclid (suc turns) a zero = a
euclid (suc turns) a (suc b) = euclid turns (suc b) (a % suc b)

-- the greatest common divisor: the second number falls at each turn
unfoldable pub gcd : ℕ → ℕ → ℕ
gcd a b = euclid b a b

unfoldable pub in_lowest_terms : ℕ → ℕ → Share
in_lowest_terms c zero = record { committed = 0; proposals = 1 }
in_lowest_terms c (suc p) = record { committed = c / gcd c (suc p); proposals = suc p / gcd c (suc p) }

-- "the share of proposals for which a Commit was sent"
abbrev pub share_of : Tally → Share
share_of t = in_lowest_terms t.committed t.proposals

-- What is true of it (proofs/Lowest.antt): it is c out of p, and no number but 1 divides both of its numbers; without proposals it is 0/1.
pub record LowestTerms (c p : ℕ) (s : Share) : Type 0 where
  pub same : 0 < p → s.committed * p ≡ c * s.proposals
  pub lowest : (d : ℕ) → d ∣ s.committed → d ∣ s.proposals → d ≡ 1
  pub none : p ≡ 0 → s ≡ record { committed = 0; proposals = 1 }
