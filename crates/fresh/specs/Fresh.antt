-- How the image of a fresh system comes to be: a system of blank processes, and then each of them.
use Rattle.std.specs.Prelude.{ℕ, replicate}
use Rattle.channel.specs.Channel.{empty_channel}
use Rattle.system.specs.declared.System.{System}
use Rattle.system.specs.Process.{with_variables, with_entry, with_history}
use Rattle.system.specs.System.{no_process, process_at, with_process}
use Rattle.system.specs.Fresh.{fresh_variables}

-- what zeros hold, with n for the first
unfoldable pub blank_system : ℕ → System
blank_system n = record { n = n; processes = replicate 8 no_process; channels = replicate 64 empty_channel; trust = replicate 8 0 }

-- process p with the variables of a fresh one of n, and its first entry
unfoldable pub with_fresh : ℕ → ℕ → System → System
with_fresh n p s = entered (with_process s p (with_variables (process_at s p) (fresh_variables n)))
  where
    entered : System → System
    entered t = with_process t p (with_history (process_at t p) (with_entry (process_at t p).history 1 (fresh_variables n).view))
