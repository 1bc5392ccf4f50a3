-- What the functions for other languages answer and leave, where the engine has no word for it yet.
use Rattle.std.specs.Prelude.{ℕ, min, ◌≡◌, List, ◌++◌, eqb, length, take, drop, set}
use Rattle.view.specs.Logic.{pick}
use Rattle.system.specs.Fresh.{fresh_of}
use Rattle.image.specs.Image.{image_width, system_in}
use Rattle.settling.specs.declared.Ending.{Ending}
use Rattle.settling.specs.declared.Ending.TheVariants.{Rest, Held, Budget}
use Rattle.settling.specs.Settle.{Settled}
use Rattle.system.specs.Outcome.{refused}

-- Bytes b become bytes c and the number k is answered: the fresh system of n processes; for a wrong n, 2 and a system of none. Where
-- b has not the length of an image, the number is 1 and every byte is as it was.
pub record Freshens (n : ℕ) (b : List ℕ) (k : ℕ) (c : List ℕ) : Type 0 where
  pub outcome : record { refusal = k; system = system_in c } ≡ pick (eqb (length b) image_width) (fresh_of n) (refused 1 (system_in b))
  pub kept : k ≡ 1 → c ≡ b

-- A buffer b becomes c with as much of a text as has room, and what lies past it as before; k is how many bytes that is.
pub record Prints (text b : List ℕ) (k : ℕ) (c : List ℕ) : Type 0 where
  pub count : k ≡ min (length text) (length b)
  pub buffer : c ≡ take (length b) text ++ drop (length text) b

-- the number of each ending, for other languages
unfoldable pub ending_number : Ending → ℕ
ending_number Rest = 0
ending_number Held = 1
ending_number Budget = 2

-- Bytes b become bytes c, the number k is answered, and a lent pair of numbers becomes another: that is the settling run o, the steps
-- done first and its ending second. Where no step was done every byte is as it was.
pub record Tells (o : Settled) (b : List ℕ) (k : ℕ) (c pair after : List ℕ) : Type 0 where
  pub number : k ≡ o.refusal
  pub system : system_in c ≡ o.system
  pub told : after ≡ set (set pair 0 o.steps) 1 (ending_number o.ending)
  pub kept : o.steps ≡ 0 → c ≡ b
