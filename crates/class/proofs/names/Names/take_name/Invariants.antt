-- The bytes taken so far stand on the page; what is left goes on with the same line.
use Rattle.std.proofs.Common.{◌≡◌, ◌≤◌, length}
use Rattle.class.specs.Reading.{bytes_left}
use Rattle.class.proofs.Taking.{Taking}
use Rattle.class.proofs.names.Names.take_name.Given as goal

abbrev pub invariant-loop : goal.invariant-loop
invariant-loop g l =
    record {
      within : l.len ≤ length l.name;
      long : length l.name ≡ length l.initial.name;
      taking : Taking (bytes_left g.R.Read.remaining l.initial.self) (bytes_left g.R.Read.remaining l.self) l.initial.name l.name l.len;
      left : l.self.left ≡ l.initial.self.left;
    }
