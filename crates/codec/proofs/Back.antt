-- The image of a system whose arrays have their lengths is 2,105 bytes long, and is read back as that very system.
use Prim.Native.Nat.{ℕ, ◌*◌}
use mathlib.Core.Path.{◌≡◌, refl, sym, ◌∙◌, ap, subst}
use mathlib.Core.Bool.{Bool, true, false}
use mathlib.Core.List.{List, [], ◌∷◌, ◌++◌, append_assoc, append-nil}
use native.Mathlib.Nat.{add_comm, mul-suc, mul-zero}
use borrow.Author.Tests.{eq-eqb}
use lib.Dec.{eqb, leb}
use lib.ListN.{length, drop, length-append}
use lib.Seq.{drop_at, get_or_at}
use Rattle.view.specs.Logic.{pick}
use Rattle.view.proofs.Laws.{Each, each_as}
use Rattle.channel.specs.declared.Message.{Message}
use Rattle.channel.specs.declared.Message.TheVariants.{Propose, Retry, Acc, Commit}
use Rattle.channel.specs.declared.Channel.{Channel}
use Rattle.system.specs.declared.Variables.{Variables}
use Rattle.system.specs.declared.Process.{Process}
use Rattle.system.specs.declared.System.{System}
use Rattle.system.specs.Fresh.{fresh_system}
use Rattle.image.specs.Image.{message_width, length_place, channel_width, record_width, variables_width, process_width, trust_place, image_width, concatenated, message_bytes, channel_bytes, pending_bytes, variables_bytes, process_bytes, encoded, rows, byte, message_of, slot_in, channel_in, pending_of, record_in, history_in, variables_of, variables_in, process_in, decoded, system_in}
use Rattle.codec.proofs.Laws.{one_byte, bytes-concatenated}
use Rattle.codec.proofs.Lengths.{ProcessLengths, ChannelLengths, Lengths}
use Rattle.system.specs.Process.{Pending}
use Rattle.std.specs.Prelude.{None, Some}

-- ---- rows
-- x is written in w bytes, and is read back from them, whatever follows
record Row {A : Type 0} (w : ℕ) (write : A → List ℕ) (read : List ℕ → A) (x : A) : Type 0 where
  long : length (write x) ≡ w
  back : (rest : List ℕ) → read (write x ++ rest) ≡ x

module _ {A : Type 0} (w : ℕ) (write : A → List ℕ) (read : List ℕ → A) where
  rows_of : (xs : List A) → Each (Row w write read) xs → Row (w * length xs) (concatenated write) (rows (length xs) w read) xs
  unfolding concatenated rows
  rows_of [] e = record { long = sym (mul-zero w); back = λ rest. refl }
  rows_of (x ∷ xs) e =
      let r = rows_of xs e.1 in
      record {
        long = length-append (write x) (concatenated write xs) ∙ rw (e.0.long, r.long, mul-suc w (length xs)) (add_comm w (w * length xs));
        back = λ rest. rw (
          append_assoc (write x) (concatenated write xs) rest,
          e.0.back (concatenated write xs ++ rest),
          drop_at (write x) (concatenated write xs ++ rest) w e.0.long,
          r.back rest,
        );
      }

  -- n of them, one after the other, are one row
  all_rows : (n : ℕ) (xs : List A) → length xs ≡ n → Each (Row w write read) xs → Row (w * n) (concatenated write) (rows n w read) xs
  all_rows n xs long e = subst (λ (m : ℕ). Row (w * m) (concatenated write) (rows m w read) xs) long (rows_of xs e)

each : {A : Type 0} (P : A → Type 0) → ((x : A) → P x) → (xs : List A) → Each P xs
each P h [] = tt
each P h (x ∷ xs) = (h x, each P h xs)

-- ---- a channel
slot_row : (m : Message) → Row message_width message_bytes slot_in m
unfolding slot_in message_of message_bytes pick
slot_row (Propose v i) = record { long = refl; back = λ rest. refl }
slot_row (Retry i j) = record { long = refl; back = λ rest. refl }
slot_row (Acc i) = record { long = refl; back = λ rest. refl }
slot_row (Commit v i) = record { long = refl; back = λ rest. refl }

channel_row : (c : Channel) → ChannelLengths c → Row channel_width channel_bytes channel_in c
unfolding channel_bytes channel_in
channel_row c l =
    let slots = all_rows message_width message_bytes slot_in 8 c.slots l.slots (each _ slot_row c.slots) in
    let b = concatenated message_bytes c.slots in
    record {
      long = length-append b (c.len ∷ []) ∙ rw slots.long;
      back = λ rest. rw (append_assoc b (c.len ∷ []) rest, slots.back (c.len ∷ rest), get_or_at b c.len rest 0 length_place slots.long);
    }

-- ---- a process
record_row : (x : Pending) → Row record_width pending_bytes record_in x
unfolding record_in pending_of pending_bytes pick
record_row None = record { long = refl; back = λ rest. refl }
record_row (Some r) = record { long = refl; back = λ rest. refl }

byte_row : (x : ℕ) → Row 1 one_byte (byte 0) x
byte_row x = record { long = refl; back = λ rest. refl }

-- the first byte says whether the process has crashed, and leaves Next
flag_back : (t : Bool) (next : ℕ) → (eqb (pick t 1 0) 1 ≡ t) × (pick (leb (pick t 1 0) 1) next 0 ≡ next)
unfolding pick
flag_back true next = (refl, refl)
flag_back false next = (refl, refl)

variables_row : (x : Variables) → Row variables_width variables_bytes variables_in x
unfolding variables_bytes variables_in variables_of
variables_row x =
    let flag = flag_back x.crashed x.next.0 in
    record { long = refl; back = λ rest. rw (flag.0, flag.1) }

process_row : (x : Process) → ProcessLengths x → Row process_width process_bytes process_in x
unfolding process_bytes process_in history_in variables_bytes
process_row x l =
    let variables = variables_row x.variables in
    let records = all_rows record_width pending_bytes record_in 8 x.pending l.pending (each _ record_row x.pending) in
    let entries = all_rows 1 one_byte (byte 0) 32 x.history.entries l.entries (each _ byte_row x.history.entries) in
    let a = variables_bytes x.variables in
    let b = concatenated pending_bytes x.pending in
    let h = x.history.entries in
    record {
      long = length-append (a ++ b) h ∙ rw (length-append a b, records.long, l.entries);
      back = λ rest. rw (
        append_assoc (a ++ b) h rest,
        append_assoc a b (h ++ rest),
        variables.back (b ++ (h ++ rest)),
        records.back (h ++ rest),
        drop_at b (h ++ rest) (8 * record_width) records.long,
        rw (bytes-concatenated h) at (entries.back rest),
      );
    }

-- ---- the system
module _ (s : System) (l : Lengths s) where
  processes : Row (process_width * 8) (concatenated process_bytes) (rows 8 process_width process_in) s.processes
  processes = all_rows process_width process_bytes process_in 8 s.processes l.processes (each_as _ _ process_row s.processes l.each_process)

  channels : Row (channel_width * 64) (concatenated channel_bytes) (rows 64 channel_width channel_in) s.channels
  channels = all_rows channel_width channel_bytes channel_in 64 s.channels l.channels (each_as _ _ channel_row s.channels l.each_channel)

  trust : Row 8 (concatenated one_byte) (rows 8 1 (byte 0)) s.trust
  trust = all_rows 1 one_byte (byte 0) 8 s.trust l.trust (each _ byte_row s.trust)

  pub encoded-length : length (encoded s) ≡ image_width
  unfolding encoded
  encoded-length =
      let a = (s.n ∷ []) ++ concatenated process_bytes s.processes in
      let b = concatenated channel_bytes s.channels in
      length-append (a ++ b) s.trust ∙ rw (length-append a b, processes.long, channels.long, l.trust)

  trust_last : rows 8 1 (byte 0) (drop trust_place ((s.n ∷ []) ++ concatenated process_bytes s.processes ++ concatenated channel_bytes s.channels ++ s.trust)) ≡ s.trust
  trust_last =
      let a = (s.n ∷ []) ++ concatenated process_bytes s.processes in
      let b = concatenated channel_bytes s.channels in
      ap (rows 8 1 (byte 0)) (drop_at (a ++ b) s.trust trust_place (length-append a b ∙ rw (processes.long, channels.long)))
      ∙ (rw (bytes-concatenated s.trust, append-nil s.trust) at (trust.back []))

  pub decode_encode : decoded (encoded s) ≡ s
  unfolding encoded decoded
  decode_encode =
      let a = concatenated process_bytes s.processes in
      let b = concatenated channel_bytes s.channels in
      rw (
        trust_last,
        append_assoc ((s.n ∷ []) ++ a) b s.trust,
        processes.back (b ++ s.trust),
        drop_at a (b ++ s.trust) (process_width * 8) processes.long,
        channels.back s.trust,
      )

  pub system_back : system_in (encoded s) ≡ s
  unfolding system_in pick
  system_back = rw (eq-eqb (length (encoded s)) image_width encoded-length) decode_encode

  -- what `encode` leaves in bytes a of the right length
  pub encode_call : (a b : List ℕ) → length a ≡ image_width → b ≡ pick (eqb (length a) image_width) (encoded s) a → system_in b ≡ s
  unfolding pick
  encode_call a b long e = ap system_in (rw (eq-eqb (length a) image_width long) at e) ∙ system_back

-- what `decode` gives of bytes b of the right length
pub decode_call : (b : List ℕ) (s : System) → length b ≡ image_width → s ≡ pick (eqb (length b) image_width) (decoded b) (fresh_system 0) → s ≡ system_in b
unfolding system_in pick
decode_call b s long e = rw (eq-eqb (length b) image_width long) (rw (eq-eqb (length b) image_width long) at e)
