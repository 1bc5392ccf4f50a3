-- The longest line of a name: 255 bytes of the name, six numbers of at most twenty digits, and the words between them.
use Prim.Native.Nat.{ℕ, ◌≤◌}
use mathlib.Core.List.{List}
use Rattle.std.specs.Prelude.{Ok, Err}
use native.Mathlib.Omega.{arith}
use lib.ListN.{length, take, length-take}
use Rattle.tallies.specs.declared.Tally.{Tally}
use Rattle.tallies.specs.declared.share.Share.{Share}
use Rattle.tallies.specs.Share.{share_of}
use Rattle.print.specs.Text.{bytes}
use Rattle.print.proofs.Bounds.{AtMost, both, twenty_digits}
use Rattle.class.specs.declared.Uncounted.TheVariants.{Unopened, TooLong}
use Rattle.class.specs.Class.{Finding, name_limit, share_text, counts_text, finding_text, name_line, line_limit}

record Words : Type 0 where
  sent : AtMost 6 (bytes " sent ")
  taken : AtMost 7 (bytes " taken ")
  waiting : AtMost 9 (bytes " waiting ")
  lost : AtMost 6 (bytes " lost ")
  share : AtMost 7 (bytes " share ")
  slash : AtMost 1 (bytes "/")
  unopened : AtMost 156 (bytes " unopened")
  long : AtMost 156 (bytes " long")
  feed : AtMost 1 (bytes "\n")

words : Words
unfolding bytes
words =
    record {
      sent = record { bytes_are = omega arith };
      taken = record { bytes_are = omega arith };
      waiting = record { bytes_are = omega arith };
      lost = record { bytes_are = omega arith };
      share = record { bytes_are = omega arith };
      slash = record { bytes_are = omega arith };
      unopened = record { bytes_are = omega arith };
      long = record { bytes_are = omega arith };
      feed = record { bytes_are = omega arith };
    }

share_length : (s : Share) → AtMost 48 (share_text s)
unfolding share_text
share_length s = both (both words.share (twenty_digits s.committed)) (both words.slash (twenty_digits s.proposals))

counts_length : (t : Tally) → AtMost 156 (counts_text t)
unfolding counts_text
counts_length t =
    both
    (both
    (both
    (both (both words.sent (twenty_digits t.sent)) (both words.taken (twenty_digits t.taken)))
    (both words.waiting (twenty_digits t.waiting)))
    (both words.lost (twenty_digits t.lost)))
    (share_length (share_of t))

finding_length : (f : Finding) → AtMost 156 (finding_text f)
unfolding finding_text
finding_length (Ok t) = counts_length t
finding_length (Err Unopened) = words.unopened
finding_length (Err TooLong) = words.long

name_length : (name : List ℕ) → AtMost name_limit (take name_limit name)
name_length name = record { bytes_are = simp length-take (omega arith) }

pub line_length_lem : (name : List ℕ) (f : Finding) → length (name_line name f) ≤ line_limit
unfolding name_line
line_length_lem name f = (both (both (name_length name) (finding_length f)) words.feed).bytes_are
