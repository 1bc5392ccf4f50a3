-- Laws of input read turn by turn.
use Prim.Native.Nat.{ℕ, ◌+◌, ◌≤◌}
use mathlib.Core.Path.{◌≡◌, ◌∙◌, sym, ap}
use mathlib.Core.List.{List, ◌++◌}
use native.Mathlib.Omega.{arith}
use lib.ListN.{length, take, drop}
use lib.Seq.{length-take-le, length-paste, take-paste, drop-paste, drop-drop}
use Rattle.std.specs.Prelude.{Option, Ok}
use Rattle.std.specs.Io.KnownBytes.{Consumes}
use Rattle.std.proofs.KnownBytes.{Consumes-trans}
use Rattle.input.specs.Received.{IsPrefixLen, ReadAt, Received}

pub counts : (n : ℕ) (l : List ℕ) → n ≤ length l → IsPrefixLen n l
counts n l h = (h, sym (length-take-le n l h))

-- one more read puts so many bytes after those that stand there
pub received_more : {done count : ℕ} {before middle after chunk : List ℕ}
    → Received (Ok done) before middle → ReadAt count done middle after chunk → Received (Ok (done + count)) before after
received_more {done} {count} {before} {middle} {after} {chunk} so r =
    let long : length after ≡ length middle = ap length r.stored ∙ length-paste middle done chunk count r.fits r.came in
    record {
      counts = counts (done + count) after (omega (arith, long, r.fits));
      long = long ∙ so.long;
      room = tt;
      kept =
          ap (drop (done + count)) r.stored
          ∙ drop-paste middle done chunk count (omega (arith, so.counts.0, so.long)) r.came
          ∙ sym (drop-drop count done middle)
          ∙ ap (drop count) so.kept
          ∙ drop-drop count done before;
    }

-- what stands in the buffer after it is what the reader gave, before and now
pub consumed_more : {done count : ℕ} {before middle after chunk : List ℕ} (a b c : Option (List ℕ))
    → Received (Ok done) before middle → ReadAt count done middle after chunk
    → Consumes a b (take done middle) → Consumes b c (take count chunk) → Consumes a c (take (done + count) after)
consumed_more {done} {count} {before} {middle} {after} {chunk} a b c so r p q =
    let is : take (done + count) after ≡ take done middle ++ take count chunk =
    ap (take (done + count)) r.stored ∙ take-paste middle done chunk count (omega arith) r.came in
    rw is (Consumes-trans a b c _ _ p q)
