-- What the struct that reads the names has yet to give.
use Rattle.std.specs.Prelude.{ℕ, List, [], take, drop, Option, Some}
use Rattle.std.specs.Option.{option_map}
use Rattle.std.specs.Io.KnownBytes.{prepend_known}
use Rattle.view.specs.Logic.{pick}
use Rattle.class.specs.declared.chunk.Chunk.{Chunk}
use Rattle.class.specs.declared.names.Names.{Names}
use Rattle.class.specs.Names.{first_names}

-- the bytes that a chunk has left
abbrev pub chunk_left : Chunk → List ℕ
chunk_left c = drop c.at (take c.have c.bytes)

-- they come next, and then what the reader gives, where that is known; of an input that has ended nothing
abbrev pub bytes_left : {R : Type 0} → (R → Option (List ℕ)) → Names R → Option (List ℕ)
bytes_left remaining x = prepend_known (chunk_left x.chunk) (pick x.ended (Some []) (remaining x.reader))

-- the names that are yet to be given
abbrev pub names_left : {R : Type 0} → (R → Option (List ℕ)) → Names R → Option (List (List ℕ))
names_left remaining x = option_map (first_names x.left) (bytes_left remaining x)
