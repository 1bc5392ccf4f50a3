-- What the system is after each of the changes that the code makes to the bytes.
use Rattle.std.proofs.Common.{ℕ, ◌+◌, ◌-◌, ◌*◌, ◌≤◌, ◌<◌, ◌≡◌, refl, sym, ◌∙◌, ap, Bool, true, false, List, [], ◌∷◌, ◌++◌, inl, Option, None, Some, IfSome, length, get_or, set, take, drop, replicate, arith, append_assoc, length-set, length-drop, length-take-le, get_or-take, get_or-drop, drop-drop, get_or-set_same, lt-ltb, le-ltb}
use Rattle.std.specs.List.{copy_within}
use Rattle.std.proofs.lemmas.List.{get_or_append_left}
use Rattle.view.specs.Logic.{pick}
use Rattle.channel.specs.declared.Message.{Message}
use Rattle.channel.specs.declared.Message.TheVariants.{Propose, Retry, Acc, Commit}
use Rattle.channel.specs.declared.Channel.{Channel}
use Rattle.channel.specs.Channel.{empty_channel, pushed, popped}
use Rattle.system.specs.declared.Variables.{Variables}
use Rattle.system.specs.Process.{index, Pending, with_entry, with_variables, with_pending, with_history}
use Rattle.system.specs.System.{process_at, with_process, channel_at, with_channel, with_trust}
use Rattle.view.specs.Logic.{put}
use Rattle.image.specs.Image.{message_width, length_place, channel_width, record_width, variables_width, process_width, variables_bytes, message_bytes, pending_bytes, rows, byte, message_of, slot_in, channel_in, pending_of, record_in, variables_of, variables_in, system_in, Becomes}
use Rattle.image.specs.Places.{process_row, record_row, entry_row, channel_row, trust_row, with_bytes}
use Rattle.image.proofs.Laws.{Outside, unchanged, written, wider, and_then, past, kept, part_same, rows_local, rows_rest, rows_split, rows-set, ChangedAt, written_changed, written_length, written_there, written_outside}
use Rattle.image.proofs.Parts.{slot_local, process_put, channel_put, trust_put, variables_within, pending_within, entry_within}

-- ---- each part is read back from its bytes
flag_back : (t : Bool) (v n o w a : ℕ)
    → variables_of (pick t 1 0) v n o w a ≡ record { crashed = t; view = v; next = index n; propout = index o; proposal = w; acks = a }
unfolding variables_of pick
flag_back true v n o w a = refl
flag_back false v n o w a = refl

variables_back : (x : Variables) (rest : List ℕ) → variables_in (variables_bytes x ++ rest) ≡ x
unfolding variables_in variables_bytes
variables_back x rest = flag_back x.crashed x.view x.next.0 x.propout.0 x.proposal x.acks

record_back : (x : Pending) (rest : List ℕ) → record_in (pending_bytes x ++ rest) ≡ x
unfolding record_in pending_of pending_bytes pick
record_back None rest = refl
record_back (Some r) rest = refl

slot_back : (m : Message) (rest : List ℕ) → slot_in (message_bytes m ++ rest) ≡ m
unfolding slot_in message_of message_bytes pick
slot_back (Propose v i) rest = refl
slot_back (Retry i j) rest = refl
slot_back (Acc i) rest = refl
slot_back (Commit v i) rest = refl

zeros_back : (rest : List ℕ) → channel_in (replicate channel_width 0 ++ rest) ≡ empty_channel
unfolding channel_in empty_channel rows slot_in message_of pick
zeros_back rest = refl

variables_long : (x : Variables) → length (variables_bytes x) ≡ variables_width
unfolding variables_bytes
variables_long x = refl

record_long : (x : Pending) → length (pending_bytes x) ≡ record_width
unfolding pending_bytes
record_long None = refl
record_long (Some r) = refl

slot_long : (m : Message) → length (message_bytes m) ≡ message_width
unfolding message_bytes
slot_long (Propose v i) = refl
slot_long (Retry i j) = refl
slot_long (Acc i) = refl
slot_long (Commit v i) = refl

-- ---- a part is written
fewer : (n w v : ℕ) (place : Option ℕ) → w ≤ v → IfSome place (λ r. r + v ≤ n) → IfSome place (λ r. r + w ≤ n)
fewer n w v None l h = h
fewer n w v (Some r) l h = omega arith

module _ (b c : List ℕ) (place : Option ℕ) where
  pub variables_put : (p : ℕ) (x : Variables) → place ≡ process_row b p → IfSome place (λ r. r + process_width ≤ length b)
      → c ≡ with_bytes b place (variables_bytes x)
      → Becomes (with_process (system_in b) p (with_variables (process_at (system_in b) p) x)) b c
  variables_put p x is room e =
      let d = written_changed variables_in variables_width x b (variables_bytes x) place (variables_long x) (variables_back x) (fewer _ _ _ place (omega arith) room) in
      process_put b c p (λ y. with_variables y x) (rw is at (variables_within b c x place (rw e d)))

  pub pending_put : (p q : ℕ) (x : Pending) → place ≡ record_row b p q → IfSome place (λ r. r + record_width ≤ length b)
      → c ≡ with_bytes b place (pending_bytes x)
      → Becomes (with_process (system_in b) p (with_pending (process_at (system_in b) p) q x)) b c
  unfolding record_row
  pending_put p q x is room e =
      let d = written_changed record_in record_width x b (pending_bytes x) place (record_long x) (record_back x) room in
      process_put b c p (λ y. with_pending y q x) (pending_within b c q x (process_row b p) (rw (← is, e) d))

  pub entry_put : (p i v : ℕ) → place ≡ entry_row b p i → IfSome place (λ r. r + 1 ≤ length b) → c ≡ with_bytes b place (v ∷ [])
      → Becomes (with_process (system_in b) p (with_history (process_at (system_in b) p) (with_entry (process_at (system_in b) p).history i v))) b c
  unfolding entry_row
  entry_put p i v is room e =
      let d = written_changed (byte 0) 1 v b (v ∷ []) place refl (λ rest. refl) room in
      process_put b c p (λ y. with_history y (with_entry y.history i v)) (entry_within b c i v (process_row b p) (rw (← is, e) d))

  pub set_put : (p v : ℕ) → place ≡ trust_row b p → IfSome place (λ r. r + 1 ≤ length b) → c ≡ with_bytes b place (v ∷ [])
      → Becomes (with_trust (system_in b) (put (system_in b).trust p v)) b c
  set_put p v is room e =
      trust_put b c p v (rw (← is, e) (written_changed (byte 0) 1 v b (v ∷ []) place refl (λ rest. refl) room))

  pub empty_put : (q p : ℕ) → place ≡ channel_row b q p → IfSome place (λ r. r + channel_width ≤ length b) → c ≡ with_bytes b place (replicate channel_width 0)
      → Becomes (with_channel (system_in b) q p empty_channel) b c
  empty_put q p is room e =
      channel_put b c q p (λ _. empty_channel)
      (rw (← is, e) (written_changed channel_in channel_width empty_channel b (replicate channel_width 0) place refl zeros_back room))

-- ---- messages, on a channel that begins at r
module _ (b : List ℕ) (r : ℕ) (room : r + channel_width ≤ length b) where
  here : byte length_place (drop r b) ≡ byte (r + length_place) b
  here = get_or-drop r b length_place 0

  push_changed : (m : Message) → byte (r + length_place) b < 8
      → ChangedAt channel_in channel_width (λ y. pushed y m) b
      (with_bytes (set b (r + length_place) (byte (r + length_place) b + 1)) (Some (r + message_width * byte (r + length_place) b)) (message_bytes m)) r
  unfolding channel_in pushed pick
  push_changed m l =
      let n = byte (r + length_place) b in
      let c = set b (r + length_place) (n + 1) in
      let s = r + message_width * n in
      let e = with_bytes c (Some s) (message_bytes m) in
      let fits : s + message_width ≤ length c = omega (arith, length-set b (r + length_place) (n + 1)) in
      let longer : Outside (r + length_place) (r + channel_width) b c = written (r + length_place) (n + 1) (omega arith) (omega arith) unchanged in
      let there = written_outside c s (message_bytes m) message_width (slot_long m) fits in
      record {
        long = written_length c s (message_bytes m) message_width (slot_long m) fits ∙ length-set b (r + length_place) (n + 1);
        outside = and_then (wider (omega arith) (omega arith) longer) (wider (omega arith) (omega arith) there);
        inside = rw (
          here,
          lt-ltb n 8 l,
          get_or-drop r e length_place 0,
          there.after (r + length_place) (omega arith),
          get_or-set_same b (r + length_place) (n + 1) 0 (omega arith),
          rows-set slot_in message_width slot_local 8 n (drop r c) (drop r e) l (past r there refl (omega arith)),
          kept (rows_local slot_in message_width slot_local 8) longer r (inl (omega arith)),
          drop-drop (message_width * n) r e,
          written_there c s (message_bytes m) message_width (slot_long m) fits,
          slot_back m,
        );
      }

  -- there is no room
  full_changed : (m : Message) → 8 ≤ byte (r + length_place) b → ChangedAt channel_in channel_width (λ y. pushed y m) b b r
  unfolding channel_in pushed pick
  full_changed m l = record { long = refl; outside = unchanged; inside = rw (here, le-ltb (byte (r + length_place) b) 8 l) }

  -- the others move up by one
  moved_up : copy_within b (r + message_width) (r + length_place) r ≡ with_bytes b (Some r) (take (7 * message_width) (drop (r + message_width) b))
  moved_up =
      let long : length (take (7 * message_width) (drop (r + message_width) b)) ≡ 7 * message_width =
      length-take-le (7 * message_width) (drop (r + message_width) b) (simp length-drop (omega arith)) in
      let width : r + length_place - (r + message_width) ≡ 7 * message_width = omega arith in
      rw (width, long) (append_assoc (take r b) _ _)

  pop_changed : 0 < byte (r + length_place) b
      → ChangedAt channel_in channel_width popped b
      (set (with_bytes b (Some r) (take (7 * message_width) (drop (r + message_width) b))) (r + length_place) (byte (r + length_place) b - 1)) r
  unfolding channel_in popped pick
  pop_changed l =
      let n = byte (r + length_place) b in
      let x = take (7 * message_width) (drop (r + message_width) b) in
      let c = with_bytes b (Some r) x in
      let e = set c (r + length_place) (n - 1) in
      let long : length x ≡ 7 * message_width = length-take-le (7 * message_width) (drop (r + message_width) b) (simp length-drop (omega arith)) in
      let moved = written_outside b r x (7 * message_width) long (omega arith) in
      let same = written_length b r x (7 * message_width) long (omega arith) in
      let shorter : Outside (r + length_place) (r + channel_width) c e = written (r + length_place) (n - 1) (omega arith) (omega arith) unchanged in
      let up : (k : ℕ) → k < 7 * message_width → get_or (drop r e) k 0 ≡ get_or (drop message_width (drop r b)) k 0 =
      λ k h.
      get_or-drop r e k 0
      ∙ shorter.before (r + k) (omega arith)
      ∙ sym (get_or-drop r c k 0)
      ∙ ap (λ t. get_or t k 0) (written_there b r x (7 * message_width) long (omega arith))
      ∙ get_or_append_left x _ 0 k (omega arith)
      ∙ get_or-take (7 * message_width) (drop (r + message_width) b) k 0 h
      ∙ ap (λ t. get_or t k 0) (sym (drop-drop message_width r b)) in
      record {
        long = length-set c (r + length_place) (n - 1) ∙ same;
        outside = and_then (wider (omega arith) (omega arith) moved) (wider (omega arith) (omega arith) shorter);
        inside = rw (
          here,
          lt-ltb 0 n l,
          get_or-drop r e length_place 0,
          get_or-set_same c (r + length_place) (n - 1) 0 (omega arith),
          rows_rest slot_in message_width 7 1 (drop r b),
          rows_rest slot_in message_width 1 7 (drop r b),
          rows_split slot_in message_width 1 7 (drop r e),
          rows_local slot_in message_width slot_local 7 (drop message_width (drop r b)) (drop r e) up,
          part_same (rows_local slot_in message_width slot_local 1) (7 * message_width) (drop r b) (drop r e)
              (λ k u v. get_or-drop r e k 0 ∙ shorter.before (r + k) (omega arith) ∙ moved.after (r + k) (omega arith) ∙ sym (get_or-drop r b k 0)),
        );
      }

  -- there is none
  empty_changed : byte (r + length_place) b ≤ 0 → ChangedAt channel_in channel_width popped b b r
  unfolding channel_in popped pick
  empty_changed l = record { long = refl; outside = unchanged; inside = rw (here, le-ltb 0 (byte (r + length_place) b) l) }

  module _ (q p : ℕ) (found : channel_row b q p ≡ Some r) where
    pub push_put : (c : List ℕ) (s : ℕ) (m : Message) → byte (r + length_place) b < 8
        → s ≡ r + message_width * byte (r + length_place) b
        → c ≡ with_bytes (set b (r + length_place) (byte (r + length_place) b + 1)) (Some s) (message_bytes m)
        → Becomes (with_channel (system_in b) q p (pushed (channel_at (system_in b) q p) m)) b c
    push_put c s m l is e = channel_put b c q p (λ y. pushed y m) (rw (found, e, is) (push_changed m l))

    pub full_put : (m : Message) → 8 ≤ byte (r + length_place) b → Becomes (with_channel (system_in b) q p (pushed (channel_at (system_in b) q p) m)) b b
    full_put m l = channel_put b b q p (λ y. pushed y m) (rw found (full_changed m l))

    pub pop_put : (c : List ℕ) → 0 < byte (r + length_place) b → c ≡ copy_within b (r + message_width) (r + length_place) r
        → Becomes (with_channel (system_in b) q p (popped (channel_at (system_in b) q p))) b (set c (r + length_place) (byte (r + length_place) b - 1))
    pop_put c l e = channel_put b _ q p popped (rw (found, e, moved_up) (pop_changed l))

    pub none_popped : byte (r + length_place) b ≤ 0 → Becomes (with_channel (system_in b) q p (popped (channel_at (system_in b) q p))) b b
    none_popped l = channel_put b b q p popped (rw found (empty_changed l))

-- there is no such channel
pub no_channel_put : (b : List ℕ) (q p : ℕ) (x : Channel) → channel_row b q p ≡ None → Becomes (with_channel (system_in b) q p x) b b
no_channel_put b q p x none = channel_put b b q p (λ _. x) (rw none refl)
