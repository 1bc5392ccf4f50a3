-- What was received so far, and that it is what the reader gave; each turn leaves less of the buffer.
use Rattle.std.proofs.Common.{◌-◌, length, take, Ok}
use Rattle.std.specs.Io.KnownBytes.{Consumes}
use Rattle.input.specs.Received.{Received}
use Rattle.input.proofs.read_input.Given as goal

abbrev pub invariant-loop-done : goal.invariant-loop-done
invariant-loop-done g l =
    record {
      received : Received (Ok l.done) l.initial.buf l.buf;
      bytes : Consumes (g.R.Read.remaining l.initial.reader) (g.R.Read.remaining l.reader) (take l.done l.buf);
    }

abbrev pub decreases-loop-done : goal.decreases-loop-done
decreases-loop-done g l = length l.initial.buf - l.done
