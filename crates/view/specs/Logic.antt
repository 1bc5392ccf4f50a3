-- The few words that every definition of this project is written with: a choice by a test, a test or a change for each of
-- the numbers 1 to n, and lists numbered from 1.
use Rattle.std.specs.Prelude.{ℕ, zero, suc, ◌+◌, ◌-◌, Bool, true, false, ◌&&◌, List, Option, None, Some, leb, get_or, set}

-- a if the test holds, b if not
unfoldable pub pick : {A : Type 0} → Bool → A → A → A
pick true a b = a
pick false a b = b

-- a unless the test holds, and then b: refusals so read in the order of the refusal table
abbrev pub unless : {A : Type 0} → Bool → A → A → A
unless test a b = pick test b a

-- 1 where the test holds, else 0
unfoldable pub one : Bool → ℕ
one test = pick test 1 0

-- the test holds of each of 1 to n
unfoldable pub all_up_to : ℕ → (ℕ → Bool) → Bool
all_up_to zero f = true
all_up_to (suc k) f = all_up_to k f && f (suc k)

-- the change made for 1, then for 2, and so on to n
unfoldable pub each_up_to : {A : Type 0} → ℕ → (ℕ → A → A) → A → A
each_up_to zero f a = a
each_up_to (suc k) f a = f (suc k) (each_up_to k f a)

-- f 1 and f 2 and so on to f n, added up
unfoldable pub sum_up_to : ℕ → (ℕ → ℕ) → ℕ
sum_up_to zero f = 0
sum_up_to (suc k) f = sum_up_to k f + f (suc k)

-- the element numbered k, counted from 1; d where there is none
unfoldable pub at : {A : Type 0} → List A → ℕ → A → A
at l zero d = d
at l (suc k) d = get_or l k d

-- the list with a as the element numbered k; the list itself where there is none
unfoldable pub put : {A : Type 0} → List A → ℕ → A → List A
put l zero a = l
put l (suc k) a = set l k a

-- k is one of 1 to n
abbrev pub is_one_of : ℕ → ℕ → Bool
is_one_of n k = leb 1 k && leb k n

-- where an array of n has the element numbered k, counted from 0, if it has one
unfoldable pub place_of : ℕ → ℕ → Option ℕ
place_of n k = pick (is_one_of n k) (Some (k - 1)) None
