-- What a program says of a failure, after its own name.
use Rattle.std.specs.Prelude.{ℕ, List, ◌++◌, codes}
use Rattle.input.specs.declared.Failure.{Failure}
use Rattle.input.specs.declared.Failure.TheVariants.{Unread, Unwritten}

abbrev pub failure_text : Failure → List ℕ
failure_text (Unread what) = codes "the " ++ (what.now ++ codes " cannot be read")
failure_text Unwritten = codes "the output cannot be written"
