-- Assignments to the variables of one process. What an assignment does not name stays.
use Rattle.std.specs.Prelude.{ℕ}
use Rattle.system.specs.declared.Variables.{Variables}
use Rattle.system.specs.Process.{assigned, index}

abbrev pub with_view : Variables → ℕ → Variables
with_view x v = assigned x v x.next x.propout x.proposal x.acks

abbrev pub with_next : Variables → ℕ → Variables
with_next x i = assigned x x.view (index i) x.propout x.proposal x.acks

abbrev pub with_acks : Variables → ℕ → Variables
with_acks x a = assigned x x.view x.next x.propout x.proposal a

-- v_p := v; PropOut := i; v* := v_p; ack := 0
abbrev pub proposing : Variables → ℕ → ℕ → Variables
proposing x v i = assigned x v x.next (index i) v 0

-- PropOut := i; ack := 0
abbrev pub reproposing : Variables → ℕ → Variables
reproposing x i = assigned x x.view x.next (index i) x.proposal 0
