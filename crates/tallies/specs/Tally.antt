-- Tallies: nothing, a sum, and a sum as the program keeps it.
use Rattle.std.specs.Prelude.{ℕ, ◌+◌, min}
use Rattle.tallies.specs.declared.Tally.{Tally}

unfoldable pub no_tally : Tally
no_tally = record { sent = 0; taken = 0; waiting = 0; lost = 0; proposals = 0; committed = 0 }

unfoldable pub plus : Tally → Tally → Tally
plus a b =
    record {
      sent = a.sent + b.sent;
      taken = a.taken + b.taken;
      waiting = a.waiting + b.waiting;
      lost = a.lost + b.lost;
      proposals = a.proposals + b.proposals;
      committed = a.committed + b.committed;
    }

-- a count as eight bytes keep it: a sum past the end stays at the largest number
abbrev pub capped_count : ℕ → ℕ
capped_count k = min k 18446744073709551615

unfoldable pub capped : Tally → Tally
capped a =
    record {
      sent = capped_count a.sent;
      taken = capped_count a.taken;
      waiting = capped_count a.waiting;
      lost = capped_count a.lost;
      proposals = capped_count a.proposals;
      committed = capped_count a.committed;
    }
