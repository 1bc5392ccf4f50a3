-- Worked examples of what is printed for a class, with what it is to read. The counts are worked out by hand from document 01.
use Rattle.std.specs.Prelude.{ℕ, List, [], ◌∷◌, replicate, Some, None, Ok, Err}
use Prim.Native.String.{String}
use Rattle.print.specs.Text.{bytes}
use Rattle.print.specs.Examples.{Printing}
use Rattle.class.specs.declared.Uncounted.TheVariants.{Unopened, TooLong}
use Rattle.class.specs.Class.{Named, name_line, class_output}

infix 80 ◌prints◌
abbrev ◌prints◌ : List ℕ → String → Printing
t prints s = record { text = t; reads = s }

-- the line of a sheet of which only the proposals are of note
abbrev share_line : ℕ → ℕ → List ℕ
share_line c p = name_line [] (Ok (record { sent = 0; taken = 0; waiting = 0; lost = 0; proposals = p; committed = c }))

-- ---- sheets
-- K1: a proposal to process 1 alone, its answer and its Commit, each sent and taken
unfoldable pub k1_named : Named
k1_named = record { name = (bytes "K1"); sheet = Some (bytes "u 2\nr 1 1\nt 1 1\na 1 1\nt 1 1\nt 1 1\nr 2 1\n") }

-- A proposal to both; process 2 stops, which clears one message; process 1 takes its own and answers it, and proposes anew, one message of
-- which vanishes. The answer and the new proposal wait. Of two proposals none is committed.
unfoldable pub named_stop : Named
named_stop = record { name = (bytes "stopped"); sheet = Some (bytes "u 2\nr 1 12\ns 2\nt 1 1\na 1 1\nr 1 12") }

-- process 1 stops while it proposes to three: two messages are sent, and the one to itself is cleared
unfoldable pub cut_named : Named
cut_named = record { name = (bytes "cut"); sheet = Some (bytes "u 3\nr 1 123 cut 2\n") }

unfoldable pub unread_named : Named
unread_named = record { name = (bytes "missing"); sheet = None }

unfoldable pub bad_first_named : Named
bad_first_named = record { name = (bytes "bad"); sheet = Some (bytes "r 1 1\nu 2\nr 1 1\n") }

unfoldable pub named_empty : Named
named_empty = record { name = (bytes "empty"); sheet = Some [] }

-- a name of 256 bytes: one more than is tried, or printed
unfoldable pub long_named : Named
long_named = record { name = (replicate 256 97); sheet = Some (bytes "u 2\nr 1 1\n") }

abbrev pub class_printings : List Printing
class_printings =
    name_line (bytes "a") (Err Unopened) prints "a unopened\n"
    ∷ name_line (bytes "a") (Err TooLong) prints "a long\n"
    ∷ name_line [] (Err Unopened) prints " unopened\n"
    ∷ share_line 0 0 prints " sent 0 taken 0 waiting 0 lost 0 share 0/1\n"
    ∷ share_line 0 7 prints " sent 0 taken 0 waiting 0 lost 0 share 0/1\n"
    ∷ share_line 4 6 prints " sent 0 taken 0 waiting 0 lost 0 share 2/3\n"
    ∷ share_line 31 31 prints " sent 0 taken 0 waiting 0 lost 0 share 1/1\n"
    ∷ share_line 7 12 prints " sent 0 taken 0 waiting 0 lost 0 share 7/12\n"
    ∷ share_line 6148914691236517205 18446744073709551615 prints " sent 0 taken 0 waiting 0 lost 0 share 1/3\n"
    ∷ class_output [] prints "all sent 0 taken 0 waiting 0 lost 0 share 0/1\n"
    ∷ class_output (k1_named ∷ []) prints "K1 sent 3 taken 3 waiting 0 lost 0 share 1/1\nall sent 3 taken 3 waiting 0 lost 0 share 1/1\n"
    ∷ class_output (k1_named ∷ unread_named ∷ named_stop ∷ bad_first_named ∷ named_empty ∷ k1_named ∷ [])
    prints "K1 sent 3 taken 3 waiting 0 lost 0 share 1/1\nmissing unopened\nstopped sent 5 taken 1 waiting 2 lost 2 share 0/1\nbad sent 0 taken 0 waiting 0 lost 0 share 0/1\nempty sent 0 taken 0 waiting 0 lost 0 share 0/1\nK1 sent 3 taken 3 waiting 0 lost 0 share 1/1\nall sent 11 taken 7 waiting 2 lost 2 share 1/2\n"
    ∷ class_output (cut_named ∷ []) prints "cut sent 2 taken 0 waiting 1 lost 1 share 0/1\nall sent 2 taken 0 waiting 1 lost 1 share 0/1\n"
    ∷ class_output (long_named ∷ [])
    prints "aaaaaaaaaaaaaaaaaaaaaaaaaaaaaaaaaaaaaaaaaaaaaaaaaaaaaaaaaaaaaaaaaaaaaaaaaaaaaaaaaaaaaaaaaaaaaaaaaaaaaaaaaaaaaaaaaaaaaaaaaaaaaaaaaaaaaaaaaaaaaaaaaaaaaaaaaaaaaaaaaaaaaaaaaaaaaaaaaaaaaaaaaaaaaaaaaaaaaaaaaaaaaaaaaaaaaaaaaaaaaaaaaaaaaaaaaaaaaaaaaaaaaaaaaaaaaaa unopened\nall sent 0 taken 0 waiting 0 lost 0 share 0/1\n"
    ∷ []
