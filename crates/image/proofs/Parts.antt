-- Laws of an image's processes, channels and sets of trust: what is read of one, and what the system is after a change of one.
use Rattle.std.proofs.Common.{ℕ, zero, suc, ◌+◌, ◌≡◌, refl, sym, ◌∙◌, ap, List, [], inl, inr, Bool, true, false, eqb, Option, None, Some, option_map, length, drop, arith, get_or-drop, drop-drop, eqb-true, eq-eqb, ne_eqb}
use Rattle.view.specs.Logic.{pick, at, put}
use Rattle.view.proofs.Laws.{true_is_not_false}
use Rattle.channel.specs.declared.Channel.{Channel}
use Rattle.channel.specs.Channel.{blank, empty_channel}
use Rattle.system.specs.declared.Variables.{Variables}
use Rattle.system.specs.declared.Process.{Process}
use Rattle.system.specs.declared.System.{System}
use Rattle.system.specs.Process.{no_variables, Pending, entry_at, with_entry, pending_at, with_variables, with_pending, with_history}
use Rattle.system.specs.System.{no_process, process_at, variables_at, with_process, channel_at, with_channel, channel_number, trust_at, with_trust}
use Rattle.image.specs.Image.{message_width, length_place, channel_width, record_width, variables_width, records_place, history_place, process_width, processes_place, channels_place, trust_place, image_width, byte, message_of, slot_in, channel_in, pending_of, record_in, history_in, variables_of, variables_in, process_in, decoded, no_system, system_in, Becomes}
use Rattle.image.specs.Places.{image_start, row_after, process_row, record_row, entry_row, channel_row, slot_row, trust_row, bytes_read}
use Rattle.image.proofs.Laws.{Local, Outside, past, wider, part_same, kept, rows_local, row_at, row_within, reading, read_back, Changed, row_changed}

-- ---- each part looks at its own bytes only
pub slot_local : Local message_width slot_in
unfolding slot_in
slot_local b c h = rw (h 0 (omega arith), h 1 (omega arith), h 2 (omega arith))

pub record_local : Local record_width record_in
unfolding record_in
record_local b c h = rw (h 0 (omega arith), h 1 (omega arith), h 2 (omega arith))

pub variables_local : Local variables_width variables_in
unfolding variables_in
variables_local b c h =
    rw (h 0 (omega arith), h 1 (omega arith), h 2 (omega arith), h 3 (omega arith), h 4 (omega arith), h 5 (omega arith))

pub byte_local : Local 1 (byte 0)
byte_local b c h = h 0 (omega arith)

pub channel_local : Local channel_width channel_in
unfolding channel_in
channel_local b c h = rw (rows_local slot_in message_width slot_local 8 b c (λ k l. h k (omega arith)), h length_place (omega arith))

pub process_local : Local process_width process_in
unfolding process_in history_in
process_local b c h =
    rw (
      variables_local b c (λ k l. h k (omega arith)),
      part_same (rows_local record_in record_width record_local 8) records_place b c (λ k l u. h k (omega arith)),
      part_same (rows_local (byte 0) 1 byte_local 32) history_place b c (λ k l u. h k (omega arith)),
    )

-- ---- bytes that are an image, and others
by_length : (b : List ℕ) (P : Option ℕ → System → Type 0) → (length b ≡ image_width → P (Some 0) (decoded b)) → ((length b ≡ image_width → ⊥) → P None no_system)
    → P (image_start b) (system_in b)
unfolding image_start system_in pick
by_length b P image other = go (eqb (length b) image_width) refl
  where
    go : (t : Bool) → eqb (length b) image_width ≡ t → P (pick t (Some 0) None) (pick t (decoded b) no_system)
    go true e = image (eqb-true (length b) image_width e)
    go false e = other (λ h. true_is_not_false (sym (eq-eqb (length b) image_width h) ∙ e))

pub an_image : (b : List ℕ) → length b ≡ image_width → system_in b ≡ decoded b
unfolding system_in pick
an_image b h = rw (eq-eqb (length b) image_width h)

pub no_image : (b : List ℕ) → (length b ≡ image_width → ⊥) → system_in b ≡ no_system
unfolding system_in pick
no_image b h = rw (ne_eqb (length b) image_width h)

none_at : {A : Type 0} (k : ℕ) (d : A) → at [] k d ≡ d
unfolding at
none_at zero d = refl
none_at (suc k) d = refl

none_put : {A : Type 0} (k : ℕ) (x : A) → [] ≡ put [] k x
unfolding put
none_put zero x = refl
none_put (suc k) x = refl

-- ---- what is read
module _ (b : List ℕ) (p : ℕ) where
  pub process_is : process_at (system_in b) p ≡ reading process_in no_process b (process_row b p)
  unfolding process_at process_row row_after decoded no_system
  process_is =
      by_length b (λ o s. at s.processes p no_process ≡ reading process_in no_process b (row_after o processes_place process_width 8 p))
      (λ h. row_at process_in process_width 8 processes_place p 0 b no_process)
      (λ h. none_at p no_process)

  variables_of_process : (place : Option ℕ) → (reading process_in no_process b place).variables ≡ reading variables_in no_variables b place
  unfolding process_in no_process
  variables_of_process None = refl
  variables_of_process (Some r) = refl

  pub variables_read : variables_at (system_in b) p ≡ variables_in (bytes_read variables_width b (process_row b p))
  unfolding variables_in variables_of pick
  variables_read =
      ap (λ (y : Process). y.variables) process_is
      ∙ variables_of_process (process_row b p)
      ∙ sym (read_back variables_in no_variables variables_width b (process_row b p) variables_local refl)

  pub pending_read : (q : ℕ) → pending_at (process_at (system_in b) p) q ≡ record_in (bytes_read record_width b (record_row b p q))
  unfolding pending_at record_row process_in no_process record_in pending_of pick
  pending_read q =
      ap (λ (y : Process). at y.pending q None) process_is
      ∙ row_within record_in record_width 8 records_place q process_in no_process (λ y. y.pending) None b (process_row b p) (λ c. refl) refl
      ∙ sym (read_back record_in None record_width b (record_row b p q) record_local refl)

  pub entry_read : (i : ℕ) → entry_at (process_at (system_in b) p).history i ≡ byte 0 (bytes_read 1 b (entry_row b p i))
  unfolding entry_at entry_row process_in history_in no_process
  entry_read i =
      ap (λ (y : Process). at y.history.entries i 0) process_is
      ∙ row_within (byte 0) 1 32 history_place i process_in no_process (λ y. y.history.entries) 0 b (process_row b p) (λ c. refl) refl
      ∙ sym (read_back (byte 0) 0 1 b (entry_row b p i) byte_local refl)

  pub trust_read : trust_at (system_in b) p ≡ byte 0 (bytes_read 1 b (trust_row b p))
  unfolding trust_at trust_row row_after decoded no_system
  trust_read =
      by_length b (λ o s. at s.trust p 0 ≡ reading (byte 0) 0 b (row_after o trust_place 1 8 p)) (λ h. row_at (byte 0) 1 8 trust_place p 0 b 0) (λ h. none_at p 0)
      ∙ sym (read_back (byte 0) 0 1 b (trust_row b p) byte_local refl)

module _ (b : List ℕ) (q p : ℕ) where
  pub channel_is : channel_at (system_in b) q p ≡ reading channel_in empty_channel b (channel_row b q p)
  unfolding channel_at channel_row row_after decoded no_system
  channel_is =
      by_length b (λ o s. at s.channels (channel_number q p) empty_channel ≡ reading channel_in empty_channel b (row_after o channels_place channel_width 64 (channel_number q p)))
      (λ h. row_at channel_in channel_width 64 channels_place (channel_number q p) 0 b empty_channel)
      (λ h. none_at (channel_number q p) empty_channel)

  pub channel_found : (r : ℕ) → channel_row b q p ≡ Some r → channel_at (system_in b) q p ≡ channel_in (drop r b)
  channel_found r e = channel_is ∙ ap (reading channel_in empty_channel b) e

  length_of_channel : (place : Option ℕ) → (reading channel_in empty_channel b place).len ≡ reading (byte 0) 0 b (option_map (λ r. r + length_place) place)
  unfolding channel_in empty_channel
  length_of_channel None = refl
  length_of_channel (Some r) = sym (get_or-drop length_place (drop r b) 0 0) ∙ ap (byte 0) (drop-drop length_place r b)

  pub length_read : (channel_at (system_in b) q p).len ≡ byte 0 (bytes_read 1 b (option_map (λ r. r + length_place) (channel_row b q p)))
  length_read =
      ap (λ (y : Channel). y.len) channel_is
      ∙ length_of_channel (channel_row b q p)
      ∙ sym (read_back (byte 0) 0 1 b (option_map (λ r. r + length_place) (channel_row b q p)) byte_local refl)

  pub message_read : (k : ℕ) → at (channel_at (system_in b) q p).slots k blank ≡ slot_in (bytes_read message_width b (slot_row b q p k))
  unfolding slot_row channel_in empty_channel slot_in message_of pick
  message_read k =
      ap (λ (y : Channel). at y.slots k blank) channel_is
      ∙ row_within slot_in message_width 8 0 k channel_in empty_channel (λ y. y.slots) blank b (channel_row b q p) (λ c. refl) refl
      ∙ sym (read_back slot_in blank message_width b (slot_row b q p k) slot_local refl)

-- ---- what becomes of bytes: those of an image's length change, or nothing does
pub changes : {t : System} {b c : List ℕ} → length b ≡ image_width → system_in c ≡ t → Becomes t b c
changes long e = record { system = e; kept = λ other. absurd (other long) }

pub stays : {t : System} {b : List ℕ} → system_in b ≡ t → Becomes t b b
stays e = record { system = e; kept = λ other. refl }

-- ---- what the system is after a change
module _ {t : System} {b c : List ℕ} where
  image_changed : length b ≡ image_width → length c ≡ length b → decoded c ≡ t → Becomes t b c
  image_changed h long e = changes h (an_image c (long ∙ h) ∙ e)

  nothing_changed : (length b ≡ image_width → ⊥) → c ≡ b → no_system ≡ t → Becomes t b c
  unfolding system_in pick
  nothing_changed other e same = record { system = rw (e, ne_eqb (length b) image_width other) same; kept = λ _. e }

module _ (b c : List ℕ) (p : ℕ) where
  pub process_put : (g : Process → Process) → Changed process_in process_width g b c (process_row b p)
      → Becomes (with_process (system_in b) p (g (process_at (system_in b) p))) b c
  unfolding process_at with_process process_row row_after decoded no_system
  process_put g =
      by_length b (λ o s. Changed process_in process_width g b c (row_after o processes_place process_width 8 p) → Becomes (with_process s p (g (process_at s p))) b c)
      (λ h e.
      let d = row_changed process_in process_width 8 processes_place p g b c 0 no_process process_local e in
      image_changed h d.long
      (rw (
        d.outside.before 0 (omega arith),
        d.inside,
        kept (rows_local channel_in channel_width channel_local 64) d.outside channels_place (inr (omega arith)),
        kept (rows_local (byte 0) 1 byte_local 8) d.outside trust_place (inr (omega arith)),
      )))
      (λ other e. nothing_changed other e (rw (← none_put p (g (at [] p no_process)))))

  pub trust_put : (v : ℕ) → Changed (byte 0) 1 (λ _. v) b c (trust_row b p) → Becomes (with_trust (system_in b) (put (system_in b).trust p v)) b c
  unfolding with_trust trust_row row_after decoded no_system
  trust_put v =
      by_length b (λ o s. Changed (byte 0) 1 (λ _. v) b c (row_after o trust_place 1 8 p) → Becomes (with_trust s (put s.trust p v)) b c)
      (λ h e.
      let d = row_changed (byte 0) 1 8 trust_place p (λ _. v) b c 0 0 byte_local e in
      image_changed h d.long
      (rw (
        d.outside.before 0 (omega arith),
        kept (rows_local process_in process_width process_local 8) d.outside processes_place (inl (omega arith)),
        kept (rows_local channel_in channel_width channel_local 64) d.outside channels_place (inl (omega arith)),
        d.inside,
      )))
      (λ other e. nothing_changed other e (rw (← none_put p v)))

pub channel_put : (b c : List ℕ) (q p : ℕ) (g : Channel → Channel) → Changed channel_in channel_width g b c (channel_row b q p)
    → Becomes (with_channel (system_in b) q p (g (channel_at (system_in b) q p))) b c
unfolding channel_at with_channel channel_row row_after decoded no_system
channel_put b c q p g =
    by_length b (λ o s. Changed channel_in channel_width g b c (row_after o channels_place channel_width 64 (channel_number q p)) → Becomes (with_channel s q p (g (channel_at s q p))) b c)
    (λ h e.
    let d = row_changed channel_in channel_width 64 channels_place (channel_number q p) g b c 0 empty_channel channel_local e in
    image_changed h d.long
    (rw (
      d.outside.before 0 (omega arith),
      kept (rows_local process_in process_width process_local 8) d.outside processes_place (inl (omega arith)),
      d.inside,
      kept (rows_local (byte 0) 1 byte_local 8) d.outside trust_place (inr (omega arith)),
    )))
    (λ other e. nothing_changed other e (rw (← none_put (channel_number q p) (g (at [] (channel_number q p) empty_channel)))))

-- ---- what a process is after a change of its part
module _ (b c : List ℕ) where
  pub variables_within : (x : Variables) (place : Option ℕ) → Changed variables_in variables_width (λ _. x) b c place
      → Changed process_in process_width (λ y. with_variables y x) b c place
  unfolding process_in history_in with_variables
  variables_within x None e = e
  variables_within x (Some r) e =
      let o : Outside 0 variables_width (drop r b) (drop r c) = past r e.outside (omega arith) refl in
      record {
        long = e.long;
        outside = wider (omega arith) (omega arith) e.outside;
        inside = rw (
          e.inside,
          kept (rows_local record_in record_width record_local 8) o records_place (inr (omega arith)),
          kept (rows_local (byte 0) 1 byte_local 32) o history_place (inr (omega arith)),
        );
      }

  pub pending_within : (q : ℕ) (x : Pending) (place : Option ℕ) → Changed record_in record_width (λ _. x) b c (row_after place records_place record_width 8 q)
      → Changed process_in process_width (λ y. with_pending y q x) b c place
  unfolding row_after process_in history_in with_pending
  pending_within q x None e = e
  pending_within q x (Some r) e =
      let d = row_changed record_in record_width 8 records_place q (λ _. x) b c r None record_local e in
      let o : Outside records_place history_place (drop r b) (drop r c) = past r d.outside refl (omega arith) in
      record {
        long = d.long;
        outside = wider (omega arith) (omega arith) d.outside;
        inside = rw (
          kept variables_local o 0 (inl (omega arith)),
          drop-drop records_place r c,
          drop-drop records_place r b,
          d.inside,
          kept (rows_local (byte 0) 1 byte_local 32) o history_place (inr (omega arith)),
        );
      }

  pub entry_within : (i v : ℕ) (place : Option ℕ) → Changed (byte 0) 1 (λ _. v) b c (row_after place history_place 1 32 i)
      → Changed process_in process_width (λ y. with_history y (with_entry y.history i v)) b c place
  unfolding row_after process_in history_in with_history with_entry
  entry_within i v None e = e
  entry_within i v (Some r) e =
      let d = row_changed (byte 0) 1 32 history_place i (λ _. v) b c r 0 byte_local e in
      let o : Outside history_place process_width (drop r b) (drop r c) = past r d.outside refl (omega arith) in
      record {
        long = d.long;
        outside = wider (omega arith) (omega arith) d.outside;
        inside = rw (
          kept variables_local o 0 (inl (omega arith)),
          kept (rows_local record_in record_width record_local 8) o records_place (inl (omega arith)),
          drop-drop history_place r c,
          drop-drop history_place r b,
          d.inside,
        );
      }
