-- What a step answers, as the papers put it: a number and a table. The program's answers are read so.
use Rattle.std.specs.Prelude.{ℕ, Result, Ok, Err}
use Rattle.system.specs.declared.System.{System}
use Rattle.system.specs.declared.Refused.{Refused}
use Rattle.system.specs.Refusal.{number}

-- the number 0 and the next system; or a refusal number and the same system
pub record Outcome : Type 0 where
  pub refusal : ℕ
  pub system : System

abbrev pub done : System → Outcome
done s = record { refusal = 0; system = s }

abbrev pub refused : ℕ → System → Outcome
refused k s = record { refusal = k; system = s }

abbrev pub outcome_of : Result System Refused → Outcome
outcome_of (Ok s) = done s
outcome_of (Err e) = refused (number e.refusal) e.system
