-- S-8: "One unit gives 3 runs at depth 1 and 4 at depth 2, none with a new entry; at depth 8 exactly two of its runs end with one." And the
-- moves that two processes and their link try, written out.
use Rattle.std.specs.Prelude.{ℕ, ◌≡◌, [], ◌∷◌, Ok}
use Rattle.plan.specs.declared.Action.{Action}
use Rattle.plan.specs.declared.Action.TheVariants.{Report, Receive, Respond, Crash}
use Rattle.orders.specs.Orders.{process, link_moves, process_moves, walked}

-- a view is a number: 1 is {1}, 2 is {2}, 3 is {1, 2}
abbrev report : ℕ → ℕ → Action
report p v = Report (process p) v

abbrev stop : ℕ → Action
stop p = Crash (process p)

-- from q at p, and of p to q
abbrev take : ℕ → ℕ → Action
take q p = Receive (process q) (process p)

abbrev answer : ℕ → ℕ → Action
answer p q = Respond (process p) (process q)

pub record NamedCounts : Type 0 where
  pub depth_1 : walked 1 1 ≡ Ok (record { runs = 3; entered = 0 })
  pub depth_2 : walked 1 2 ≡ Ok (record { runs = 4; entered = 0 })
  pub depth_8 : walked 1 8 ≡ Ok (record { runs = 335; entered = 2 })
  pub link_of_2 : link_moves 2 ≡ report 1 1 ∷ report 1 2 ∷ report 1 3 ∷ stop 1 ∷ report 2 1 ∷ report 2 2 ∷ report 2 3 ∷ stop 2 ∷ []
  pub processes_of_2 : process_moves 2 ≡ take 1 1 ∷ take 2 1 ∷ take 1 2 ∷ take 2 2 ∷ answer 1 1 ∷ answer 1 2 ∷ answer 2 1 ∷ answer 2 2 ∷ []
