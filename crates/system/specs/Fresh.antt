-- Document 01: "Fresh table of n units: nobody has stopped; every local view and every entry at position 1 is the set of all n;
-- other positions are empty; Next is 2, PropOut 1, the last proposed view empty; no acknowledgement, recorded proposal or
-- message. A request for n outside 1 to 8 gives refusal 2 and a table of zero units."
use Rattle.std.specs.Prelude.{ℕ, false, None, replicate}
use Rattle.view.specs.Logic.{pick, is_one_of}
use Rattle.view.specs.View.{everyone}
use Rattle.channel.specs.Channel.{empty_channel}
use Rattle.system.specs.declared.Variables.{Variables}
use Rattle.system.specs.declared.Process.{Process}
use Rattle.system.specs.declared.System.{System}
use Rattle.system.specs.Process.{with_entry, no_entries, index}
use Rattle.system.specs.Outcome.{Outcome, done, refused}

unfoldable pub fresh_variables : ℕ → Variables
fresh_variables n =
    record { crashed = false; view = everyone n; next = index 2; propout = index 1; proposal = 0; acks = 0 }

unfoldable pub fresh_process : ℕ → Process
fresh_process n =
    record {
      variables = fresh_variables n;
      pending = replicate 8 None;
      history = with_entry no_entries 1 (everyone n);
    }

-- S-5: "either value is sound": every mark is off
unfoldable pub fresh_system : ℕ → System
fresh_system n =
    record { n = n; processes = replicate 8 (fresh_process n); channels = replicate 64 empty_channel; trust = replicate 8 0 }

unfoldable pub fresh_of : ℕ → Outcome
fresh_of n = pick (is_one_of 8 n) (done (fresh_system n)) (refused 2 (fresh_system 0))
