-- A list of steps, four bytes each: its kind, what it names, and how it is cut; and what it answers and leaves in the image.
use Rattle.std.specs.Prelude.{ℕ, zero, suc, ◌+◌, ◌-◌, ◌*◌, ◌/◌, ◌%◌, min, ◌≡◌, Result, Ok, Err, Bool, true, ◌&&◌, not, List, [], ◌∷◌, ◌++◌, eqb, ltb, length, get_or, drop}
use Rattle.view.specs.Logic.{pick}
use Rattle.system.specs.declared.System.{System}
use Rattle.system.specs.declared.refusal.Refusal.{Refusal}
use Rattle.system.specs.declared.refusal.Refusal.TheVariants.{BadLine}
use Rattle.system.specs.Refusal.{number}
use Rattle.system.specs.Outcome.{Outcome, refused}
use Rattle.plan.specs.declared.Action.{Action}
use Rattle.plan.specs.declared.Action.TheVariants.{Report, Receive, Respond, Crash}
use Rattle.plan.specs.declared.Cut.{Cut}
use Rattle.plan.specs.declared.Cut.TheVariants.{Whole, After}
use Rattle.plan.specs.declared.Step.{Step}
use Rattle.step.specs.Step.{stepped}
use Rattle.image.specs.Image.{system_in}

-- 255 is a whole step, and any other byte the number of messages after which it is cut
unfoldable pub cut_of : ℕ → Cut
cut_of k = pick (eqb k 255) Whole (After k)

-- what four bytes say: a step, or none
abbrev pub Order : Type 0
Order = Result Step Refusal

abbrev pub ordered : Action → Cut → Order
ordered o c = Ok (record { action = o; cut = c })

-- a kind that there is not is no step
unfoldable pub order_of : ℕ → ℕ → ℕ → Cut → Order
order_of kind x y c =
    pick (eqb kind 0) (ordered (Report (record { 0 = x }) y) c)
    (pick (eqb kind 1) (ordered (Receive (record { 0 = x }) (record { 0 = y })) c)
    (pick (eqb kind 2) (ordered (Respond (record { 0 = x }) (record { 0 = y })) c)
    (pick (eqb kind 3) (ordered (Crash (record { 0 = x })) c) (Err BadLine))))

-- the order that begins at a place: bytes that break off inside a step are no step either
unfoldable pub order_at : List ℕ → ℕ → Order
order_at l at =
    pick (ltb 3 (length l - at)) (order_of (get_or l at 0) (get_or l (at + 1) 0) (get_or l (at + 2) 0) (cut_of (get_or l (at + 3) 0))) (Err BadLine)

-- how many orders a list has, one that breaks off among them
unfoldable pub order_count : List ℕ → ℕ
order_count l = pick (eqb (length l % 4) 0) (length l / 4) (length l / 4 + 1)

-- k orders of a list, from the one numbered i on, counted from 0
unfoldable pub orders_from : ℕ → List ℕ → ℕ → List Order
orders_from zero l i = []
orders_from (suc k) l i = order_at l (4 * i) ∷ orders_from k l (i + 1)

-- its orders, as many of them as there are places for their numbers
unfoldable pub orders_in : ℕ → List ℕ → List Order
orders_in places l = orders_from (min places (order_count l)) l 0

-- what is no step is refused, with 8
unfoldable pub obeyed : System → Order → Outcome
obeyed s (Err r) = refused (number r) s
obeyed s (Ok o) = stepped s o

-- each on the system that the one before left: the numbers answered, and the system in the end
unfoldable pub numbers_of : System → List Order → List ℕ
numbers_of s [] = []
numbers_of s (o ∷ os) = (obeyed s o).refusal ∷ numbers_of (obeyed s o).system os

unfoldable pub system_after : System → List Order → System
system_after s [] = s
system_after s (o ∷ os) = system_after (obeyed s o).system os

-- every one of the numbers is a refusal
unfoldable pub all_refused : List ℕ → Bool
all_refused [] = true
all_refused (k ∷ ks) = not (eqb k 0) && all_refused ks

-- a list of steps on bytes b, its numbers into a slice m: r were done; b becomes c, and m becomes their numbers with what lay past them
pub record Performs (list b m : List ℕ) (r : ℕ) (c k : List ℕ) : Type 0 where
  pub count : r ≡ length (orders_in (length m) list)
  pub system : system_in c ≡ system_after (system_in b) (orders_in (length m) list)
  pub numbers : k ≡ numbers_of (system_in b) (orders_in (length m) list) ++ drop r m
  -- where none is done, as on an image that is not sound or has another length, every byte is as it was
  pub kept : all_refused (numbers_of (system_in b) (orders_in (length m) list)) ≡ true → c ≡ b
