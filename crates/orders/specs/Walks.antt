-- What the private functions of the walk ask and promise.
use Rattle.std.specs.Prelude.{ℕ, ◌+◌, ◌*◌, ◌/◌, ◌%◌, ◌≤◌, ◌≡◌, Bool, true, List, ltb, eqb, length}
use Rattle.view.specs.Logic.{pick, is_one_of}
use Rattle.system.specs.declared.System.{System}
use Rattle.sound.specs.Sound.{sound_system}
use Rattle.plan.specs.declared.Action.{Action}
use Rattle.plan.specs.declared.Action.TheVariants.{Report, Receive, Respond, Crash}
use Rattle.plan.specs.Cut.{whole}
use Rattle.step.specs.Step.{stepped}
use Rattle.image.specs.Image.{image_width, system_in}
use Rattle.orders.specs.Orders.{process}

-- the moves of the link by their places, counted from 0: for each process a report of each view of n processes but the empty one, and last
-- its stop
unfoldable pub link_move_at : ℕ → ℕ → Action
link_move_at each k =
    pick (eqb (k % each + 1) each) (Crash (process (k / each + 1))) (Report (process (k / each + 1)) (k % each + 1))

-- the moves of the processes by their places: a take on each of n * n channels, and as many answers
unfoldable pub process_move_at : ℕ → ℕ → Action
process_move_at n k =
    pick (ltb k (n * n)) (Receive (process (k % n + 1)) (process (k / n % n + 1))) (Respond (process (k / n % n + 1)) (process (k % n + 1)))

-- bytes that hold a sound system of which n processes, 1 or 2, are walked so deep
pub record Walks (n depth : ℕ) (b : List ℕ) : Type 0 where
  pub long : length b ≡ image_width
  pub sound : sound_system (system_in b) ≡ true
  pub few : is_one_of 2 n ≡ true
  pub shallow : depth ≤ 8

-- a move on a copy of the bytes that hold system s: r says whether it is done, and then bytes c hold the system after it
pub record Tries (o : Action) (s : System) (r : Bool) (c : List ℕ) : Type 0 where
  pub answer : r ≡ eqb (stepped s (whole o)).refusal 0
  pub system : system_in c ≡ (stepped s (whole o)).system
  pub stays : sound_system (system_in c) ≡ true
