-- S-6: "take a table reached from a fresh one by steps, at rest as in S-4, and a view all of whose units are live and have exactly that local
-- view. Then the last non-empty position is the same at each of those units and holds that view."
use Rattle.std.specs.Prelude.{ℕ, zero, suc, ◌≡◌, Bool, true, ◌&&◌, ◌||◌, not, List, eqb, ltb}
use Rattle.view.specs.Logic.{pick, all_up_to}
use Rattle.view.specs.View.{has, within, least_of}
use Rattle.system.specs.declared.System.{System}
use Rattle.system.specs.System.{variables_at, entry_in}
use Rattle.system.specs.Process.{is_written}
use Rattle.step.specs.Rest.{at_rest}
use Rattle.events.specs.Event.{Event, ran}
use Rattle.agreement.specs.Demand.{start}

-- the greatest of the indices 1 to i at which process p has an entry; 0 if it has none
unfoldable pub last_up_to : ℕ → System → ℕ → ℕ
last_up_to zero s p = 0
last_up_to (suc i) s p = pick (is_written (entry_in s p (suc i))) (suc i) (last_up_to i s p)

-- "the last non-empty position": "Each history has positions 1 to 32, each empty or holding a view"
unfoldable pub last_non_empty : System → ℕ → ℕ
last_non_empty s p = last_up_to 32 s p

-- process k is not one of the view's, or is "live" and has "exactly that local view"
unfoldable pub local_if_named : System → ℕ → ℕ → Bool
local_if_named s v k = not (has v k) || (not (variables_at s k).crashed && eqb (variables_at s k).view v)

-- "a view all of whose units are live and have exactly that local view". A view is "kept as one byte" and "names only units 1 to n"
unfoldable pub is_common : System → ℕ → Bool
is_common s v = ltb v 256 && within s.n v && all_up_to 8 (local_if_named s v)

-- "Then the last non-empty position is the same at each of those units and holds that view."
pub record Final (s : System) (v : ℕ) : Type 0 where
  pub same : (p q : ℕ) → has v p ≡ true → has v q ≡ true → last_non_empty s p ≡ last_non_empty s q
  pub holds : (p : ℕ) → has v p ≡ true → entry_in s p (last_non_empty s p) ≡ v
  -- and it is PropOut of the least process of the view
  pub proposed : (p : ℕ) → has v p ≡ true → last_non_empty s p ≡ (variables_at s (least_of v).0).propout.0

-- the claim, of the system that a list of events leaves, with the first of them on a fresh system
abbrev pub Quiet : ℕ → List Event → Type 0
Quiet n es = (v : ℕ) → at_rest (ran (start n) es) ≡ true → is_common (ran (start n) es) v ≡ true → Final (ran (start n) es) v
