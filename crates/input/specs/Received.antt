-- What is true of a buffer after input was read into it, and of a buffer newly made. What the world sends is free: how many bytes come,
-- which they are, and whether a read fails. Everything else is fixed.
use Rattle.std.specs.Prelude.{ℕ, ◌+◌, ◌≤◌, ◌<◌, ◌≡◌, ◌⊎◌, List, length, get_or, take, drop, Option, Result, Ok, Err, IfOk, IfErr, OnErr}
use Rattle.std.specs.Io.KnownBytes.{Consumes, IsAtEnd}
use Rattle.std.proofs.Math.Seq.{paste}
use Rattle.input.specs.declared.ReadFailed.{ReadFailed}

-- `&buf[..n]` is in bounds and has n bytes: what std's `read` promises of its count
abbrev pub IsPrefixLen : ℕ → List ℕ → Type 0
IsPrefixLen n buf = (n ≤ length buf) × (n ≡ length (take n buf))

-- so many bytes, all of them 0
pub record Zeros (n : ℕ) (buf : List ℕ) : Type 0 where
  pub long : n ≡ length buf
  pub zero_at : (i : ℕ) → get_or buf i 0 ≡ 0

-- how many bytes have come, when the reading ended or a read failed
abbrev pub read_len : Result ℕ ReadFailed → ℕ
read_len (Ok n) = n
read_len (Err e) = e.len

-- one read, put at a place: so many of a chunk's bytes stand there
pub record ReadAt (count at : ℕ) (before after chunk : List ℕ) : Type 0 where
  pub came : count ≤ length chunk
  pub fits : at + count ≤ length before
  pub stored : after ≡ paste before at chunk count

-- the input's bytes are the buffer's first, as many as the count says; a read that fails leaves room, so that a full buffer is none;
-- the bytes after them are as they were
pub record Received (outcome : Result ℕ ReadFailed) (before after : List ℕ) : Type 0 where
  pub counts : IsPrefixLen (read_len outcome) after
  pub long : length after ≡ length before
  pub room : IfErr outcome (λ e. e.len < length before)
  pub kept : drop (read_len outcome) after ≡ drop (read_len outcome) before

-- a reader was read on: what stands in the buffer is what it gave, with room left it is at its end, and a failure is a failed read's
pub record ReadOn {R : Type 0} (remaining : R → Option (List ℕ)) (failed : R → Type 0) (outcome : Result ℕ ReadFailed) (before after : List ℕ) (first last : R) : Type 0 where
  pub bytes : Consumes (remaining first) (remaining last) (take (read_len outcome) after)
  pub end : IfOk outcome (λ n. n < length before → IsAtEnd (remaining last))
  pub fails : OnErr outcome (failed last)

-- a path was not opened, which is a failure with no bytes, or the file that it opened was read on
abbrev pub FileRead : {File : Type 0} → (File → Type 0) → Type 0 → (File → File → Type 0) → Result ℕ ReadFailed → Type 0
FileRead {File} opened unopened read outcome = (unopened × (outcome ≡ Err (record { len = 0 }))) ⊎ ((first : File) × (last : File) × opened first × read first last)
