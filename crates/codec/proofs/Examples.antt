-- Worked examples of images, computed: some bytes of the image of a fresh system of two processes and of one with a message on
-- its way, and what is read of bytes that stand for nothing.
use Prim.Native.Nat.{ℕ}
use mathlib.Core.Path.{◌≡◌, refl}
use mathlib.Core.Bool.{false}
use mathlib.Core.List.{List, [], ◌∷◌, ◌++◌}
use lib.ListN.{take, drop, replicate}
use Rattle.view.specs.Logic.{pick, put}
use Rattle.view.specs.View.{everyone}
use Rattle.channel.specs.declared.Message.TheVariants.{Acc, Commit}
use Rattle.channel.specs.Channel.{empty_channel, pushed}
use Rattle.system.specs.declared.System.{System}
use Rattle.system.specs.Process.{with_entry, index, proposal_at}
use Rattle.system.specs.System.{channel_number, with_channel}
use Rattle.system.specs.Fresh.{fresh_variables, fresh_process, fresh_system}
use Rattle.image.specs.Image.{concatenated, message_bytes, channel_bytes, pending_bytes, variables_bytes, process_bytes, encoded, message_of, slot_in, pending_of, record_in, variables_of, variables_in, no_system, system_in}
use Rattle.std.specs.Prelude.{Some}

-- n bytes of an image, from a place on
abbrev bytes_at : ℕ → ℕ → System → List ℕ
bytes_at place n s = take n (drop place (encoded s))

-- n is 2. Process 1 has not crashed; its view is {1, 2}, Next 2, PropOut 1, nothing is proposed or acknowledged, and the first of
-- its records is none
pub fresh_begins : bytes_at 0 10 (fresh_system 2) ≡ 2 ∷ 0 ∷ 3 ∷ 2 ∷ 1 ∷ 0 ∷ 0 ∷ 0 ∷ 0 ∷ 0 ∷ []
unfolding encoded concatenated process_bytes variables_bytes pending_bytes fresh_system fresh_process fresh_variables everyone pick
fresh_begins = refl

-- its history is {1, 2} at index 1, and empty from there on; process 2 follows
pub fresh_history : bytes_at 31 34 (fresh_system 2) ≡ (3 ∷ []) ++ replicate 31 0 ++ (0 ∷ 3 ∷ [])
unfolding encoded concatenated process_bytes variables_bytes pending_bytes fresh_system fresh_process fresh_variables everyone with_entry put pick
fresh_history = refl

-- the channel from process 1 to process 2 is the second: Commit {1} 2 is its first message, and its length is 1
pub message-sent : bytes_at 522 25 (with_channel (fresh_system 2) 1 2 (pushed empty_channel (Commit 1 (index 2)))) ≡ (3 ∷ 1 ∷ 2 ∷ []) ++ replicate 21 0 ++ (1 ∷ [])
unfolding encoded concatenated process_bytes variables_bytes pending_bytes channel_bytes message_bytes fresh_system fresh_process fresh_variables everyone with_entry put with_channel channel_number pushed empty_channel pick
message-sent = refl

-- ---- bytes that stand for nothing
-- a message's tag is 0 to 3
pub wrong_message : slot_in (4 ∷ 3 ∷ 2 ∷ []) ≡ (Acc (index 0))
unfolding slot_in message_of pick
wrong_message = refl

-- a record's tag is 0 or 1
pub wrong_record : record_in (2 ∷ 3 ∷ 2 ∷ []) ≡ Some (proposal_at 0 (index 0))
unfolding record_in pending_of pick
wrong_record = refl

-- the first byte of a process is 0 or 1
pub wrong_flag : variables_in (2 ∷ 3 ∷ 2 ∷ 1 ∷ 0 ∷ 0 ∷ []) ≡ record { crashed = false; view = 3; next = index 0; propout = index 1; proposal = 0; acks = 0 }
unfolding variables_in variables_of pick
wrong_flag = refl

-- a byte too few
pub wrong_length : system_in (take 2104 (encoded (fresh_system 2))) ≡ no_system
unfolding system_in encoded concatenated process_bytes variables_bytes pending_bytes channel_bytes message_bytes fresh_system fresh_process fresh_variables everyone with_entry put empty_channel pick
wrong_length = refl
