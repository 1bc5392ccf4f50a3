-- Document 01: "A view is a set of units, kept as one byte: unit 1 is the lowest bit."
-- A unit is called a process here, as in the paper.
use Rattle.std.specs.Prelude.{ℕ, zero, suc, ◌+◌, ◌-◌, ◌/◌, ◌%◌, ◌^◌, Bool, ◌&&◌, ◌||◌, not, leb, ltb, eqb}
use Rattle.std.specs.Int.Bits.{bit_and, bit_or, bit_xor}
use Rattle.view.specs.declared.ProcessId.{ProcessId}
use Rattle.view.specs.Logic.{pick, all_up_to, each_up_to, is_one_of}

-- the view names process k: bit k - 1 is set
unfoldable pub has : ℕ → ℕ → Bool
has v k = is_one_of 8 k && eqb (v / 2 ^ (k - 1) % 2) 1

-- "names only units 1 to n"
unfoldable pub within : ℕ → ℕ → Bool
within n v = all_up_to 8 (λ k. not (has v k) || leb k n)

-- each process that a names is named by b: what the two share is all of a
abbrev pub subset : ℕ → ℕ → Bool
subset a b = eqb (bit_and a b) a

-- the view with process k added; a number that no process can have adds nothing
unfoldable pub with : ℕ → ℕ → ℕ
with v k = pick (is_one_of 8 k) (bit_or v (2 ^ (k - 1))) v

-- the processes of a that b lacks
unfoldable pub minus : ℕ → ℕ → ℕ
minus a b = bit_xor a (bit_and a b)

-- the view with process k or without it, as the test says
unfoldable pub switched : ℕ → ℕ → Bool → ℕ
switched v k on = pick on (with v k) (minus v (with 0 k))

-- the set of all of n processes, of which there are at most eight
unfoldable pub everyone : ℕ → ℕ
everyone n = pick (leb 8 n) 255 (2 ^ n - 1)

-- the first of the n numbers from k on that the view names; 0 if it names none of them
unfoldable pub first_from : ℕ → ℕ → ℕ → ℕ
first_from zero k v = 0
first_from (suc n) k v = pick (has v k) k (first_from n (suc k) v)

-- "the least unit of each of the 256 views .., 0 for the empty view"
unfoldable pub least_of : ℕ → ProcessId
least_of v = record { 0 = first_from 8 1 v }

-- one more, where the view names process k
unfoldable pub counted_at : ℕ → ℕ → ℕ → ℕ
counted_at v k c = pick (has v k) (c + 1) c

-- how many processes the view names
unfoldable pub count_of : ℕ → ℕ
count_of v = each_up_to 8 (counted_at v) 0

-- process k joins a set w of fewer than m, where the view names it
unfoldable pub joined : ℕ → ℕ → ℕ → ℕ → ℕ
joined m v k w = pick (has v k && ltb (count_of w) m) (with w k) w

-- the first m processes of the view, in rising order; all of it where it names no more
unfoldable pub first_members : ℕ → ℕ → ℕ
first_members m v = each_up_to 8 (joined m v) 0
