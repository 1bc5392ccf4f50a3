-- Worked examples of what is printed, with what it is to read.
use Rattle.std.specs.Prelude.{ℕ, Bool, true, false, List, [], ◌∷◌}
use Prim.Native.String.{String}
use Rattle.system.specs.declared.History.{History}
use Rattle.system.specs.declared.Process.{Process}
use Rattle.system.specs.declared.System.{System}
use Rattle.system.specs.Process.{no_entries, with_entry, index}
use Rattle.system.specs.System.{no_process, with_process}
use Rattle.system.specs.Fresh.{fresh_system}
use Rattle.print.specs.Text.{bytes, decimal}
use Rattle.print.specs.Print.{numbered_line, column_line, unit_lines}

-- a process of which only what is printed is of note
abbrev process : Bool → ℕ → History → Process
process crashed next h =
    record {
      variables = record { crashed = crashed; view = 0; next = index next; propout = index 0; proposal = 0; acks = 0 };
      pending = no_process.pending;
      history = h;
    }

-- K1's processes at its end: "unit 1 live next 3 1=12 2=1", "unit 2 live next 2 1=12"
unfoldable pub two_units : System
two_units = with_process (fresh_system 2) 1 (process false 3 (with_entry (with_entry no_entries 1 3) 2 1))

unfoldable pub one_stopped : System
one_stopped = with_process (fresh_system 1) 1 (process true 33 (with_entry (with_entry (with_entry no_entries 1 255) 10 129) 32 6))

pub record Printing : Type 0 where
  pub text : List ℕ
  pub reads : String

infix 80 ◌reads◌
abbrev ◌reads◌ : List ℕ → String → Printing
t reads s = record { text = t; reads = s }

abbrev pub printings : List Printing
printings =
    decimal 0 reads "0"
    ∷ decimal 9 reads "9"
    ∷ decimal 10 reads "10"
    ∷ decimal 255 reads "255"
    ∷ decimal 60001 reads "60001"
    ∷ decimal 18446744073709551615 reads "18446744073709551615"
    ∷ numbered_line 7 4 reads "7 4\n"
    ∷ numbered_line 60000 8 reads "60000 8\n"
    ∷ numbered_line 0 9 reads "0 9\n"
    ∷ numbered_line 4 11 reads "4 11\n"
    ∷ column_line 2 8 0 reads "2 8 0\n"
    ∷ column_line 60000 8 13 reads "60000 8 13\n"
    ∷ unit_lines two_units reads "unit 1 live next 3 1=12 2=1\nunit 2 live next 2 1=12\n"
    ∷ unit_lines one_stopped reads "unit 1 stopped next 33 1=12345678 10=18 32=23\n"
    ∷ unit_lines (fresh_system 0) reads ""
    ∷ []

abbrev pub printed_text : Printing → List ℕ
printed_text x = x.text

unfoldable pub expected_text : Printing → List ℕ
expected_text x = bytes x.reads
