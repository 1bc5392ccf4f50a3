-- What the parts of a settling run do: promised by private functions alone.
use Rattle.std.specs.Prelude.{ℕ, ◌≤◌, ◌≡◌, max, List}
use Rattle.std.specs.Borrow.{MutBor}
use Rattle.tallies.specs.Tally.{no_tally}
use Rattle.plan.specs.declared.Step.{Step}
use Rattle.image.specs.Image.{system_in}
use Rattle.settling.specs.Settle.{Progress}
use Rattle.settle.specs.declared.Run.{Run}

-- how far a run is, if l are its steps so far: the program keeps their number alone
abbrev pub progress_of : Run → List Step → Progress
progress_of x l = record { system = system_in x.image.now; steps = x.steps; tally = x.tally; log = l }

-- Run x goes on to run y, on the same bytes: the progress that f makes. The number of steps never falls, nor grows past the budget, and
-- where none is done every byte is as it was.
pub record Advances (f : Progress → Progress) (x y : Run) : Type 0 where
  pub reached : (l : List Step) → f (progress_of x l) ≡ progress_of y (f (progress_of x l)).log
  pub same_bytes : y.image.ghost_name ≡ x.image.ghost_name
  pub same_budget : y.budget ≡ x.budget
  pub same_size : y.n ≡ x.n
  pub rises : x.steps ≤ y.steps
  pub inside : y.steps ≤ max x.steps x.budget
  pub kept : y.steps ≡ x.steps → y.image.now ≡ x.image.now

-- run x is before its first step, on these bytes
pub record Begins (budget : ℕ) (image : MutBor (List ℕ)) (x : Run) : Type 0 where
  pub same_bytes : x.image.ghost_name ≡ image.ghost_name
  pub bytes : x.image.now ≡ image.now
  pub size : x.n ≡ (system_in image.now).n
  pub budget_is : x.budget ≡ budget
  pub steps : x.steps ≡ 0
  pub tally : x.tally ≡ no_tally
