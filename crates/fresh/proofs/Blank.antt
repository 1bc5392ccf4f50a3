-- Zeros are the image of a system of blank processes and empty channels, in which nobody may trust anyone again.
use Prim.Native.Nat.{ℕ, zero, suc, ◌+◌, ◌<◌}
use mathlib.Core.Path.{◌≡◌, refl, ◌∙◌, ap}
use mathlib.Core.List.{List}
use native.Mathlib.Omega.{arith}
use borrow.Author.Tests.{eq-eqb}
use lib.Dec.{eqb}
use lib.ListN.{length, get_or, set, drop, replicate, length-set, length-replicate}
use lib.Seq.{get_or-drop, get_or-set_same, get_or-set_other}
use Rattle.view.specs.Logic.{pick, each_up_to, at, put}
use Rattle.channel.specs.Channel.{blank, empty_channel}
use Rattle.system.specs.Process.{with_variables, with_entry, with_history}
use Rattle.system.specs.System.{no_process, process_at, with_process}
use Rattle.system.specs.Fresh.{fresh_process, fresh_system, fresh_variables}
use Rattle.image.specs.Image.{message_width, length_place, channel_width, record_width, records_place, history_place, process_width, processes_place, channels_place, trust_place, image_width, rows, byte, message_of, slot_in, channel_in, pending_of, record_in, history_in, variables_of, variables_in, process_in, decoded, system_in}
use Rattle.image.proofs.Parts.{an_image}
use Rattle.fresh.specs.Fresh.{blank_system, with_fresh}
use Rattle.std.specs.Prelude.{None}

-- ---- what zeros hold: past the end a byte is read as 0 too
abbrev Zeros : List ℕ → Type 0
Zeros b = (k : ℕ) → get_or b k 0 ≡ 0

dropped : (w : ℕ) (b : List ℕ) → Zeros b → Zeros (drop w b)
dropped w b z k = get_or-drop w b k 0 ∙ z (w + k)

blank_rows : {A : Type 0} (f : List ℕ → A) (x : A) → ((b : List ℕ) → Zeros b → f b ≡ x) → (n w : ℕ) (b : List ℕ) → Zeros b → rows n w f b ≡ replicate n x
unfolding rows
blank_rows f x part zero w b z = refl
blank_rows f x part (suc n) w b z = rw (part b z, blank_rows f x part n w (drop w b) (dropped w b z))

blank_slot : (b : List ℕ) → Zeros b → slot_in b ≡ blank
unfolding slot_in message_of pick
blank_slot b z = rw (z 0, z 1, z 2)

blank_channel : (b : List ℕ) → Zeros b → channel_in b ≡ empty_channel
unfolding channel_in empty_channel
blank_channel b z = rw (blank_rows slot_in blank blank_slot 8 message_width b z, z length_place)

blank_record : (b : List ℕ) → Zeros b → record_in b ≡ None
unfolding record_in pending_of pick
blank_record b z = rw (z 0)

blank_process : (b : List ℕ) → Zeros b → process_in b ≡ no_process
unfolding process_in variables_in variables_of history_in no_process pick
blank_process b z =
    rw (
      z 0,
      z 1,
      z 2,
      z 3,
      z 4,
      z 5,
      blank_rows record_in None blank_record 8 record_width _ (dropped records_place b z),
      blank_rows (byte 0) 0 (λ c y. y 0) 32 1 _ (dropped history_place b z),
    )

all_zeros : (n : ℕ) → Zeros (replicate n 0)
all_zeros zero k = refl
all_zeros (suc n) zero = refl
all_zeros (suc n) (suc k) = all_zeros n k

pub blank_held : (c : List ℕ) (n : ℕ) → c ≡ replicate image_width 0 → system_in (set c 0 n) ≡ blank_system n
unfolding decoded blank_system
blank_held c n e =
    rw (
      an_image (set c 0 n) (length-set c 0 n ∙ long),
      get_or-set_same c 0 n 0 (omega (arith, long)),
      blank_rows process_in no_process blank_process 8 process_width _ (rest processes_place (omega arith)),
      blank_rows channel_in empty_channel blank_channel 64 channel_width _ (rest channels_place (omega arith)),
      blank_rows (byte 0) 0 (λ d y. y 0) 8 1 _ (rest trust_place (omega arith)),
    )
  where
    long : length c ≡ image_width
    long = ap length e ∙ length-replicate {A = ℕ} image_width 0

    rest : (w : ℕ) → 0 < w → Zeros (drop w (set c 0 n))
    rest w l k =
        get_or-drop w (set c 0 n) k 0
        ∙ get_or-set_other c 0 (w + k) n 0 (λ d. omega arith)
        ∙ ap (λ (l : List ℕ). get_or l (w + k) 0) e
        ∙ all_zeros image_width (w + k)

-- ---- each process of a blank system made fresh
pub all_fresh : (n : ℕ) → each_up_to 8 (with_fresh n) (blank_system n) ≡ fresh_system n
unfolding each_up_to put at blank_system with_fresh with_process process_at with_variables with_history with_entry no_process fresh_system fresh_process fresh_variables
all_fresh n = refl

-- ---- bytes as many as an image has, once a fresh system is put into them
pub fresh_in : (b c : List ℕ) (n : ℕ) → length b ≡ image_width
    → system_in c ≡ pick (eqb (length b) image_width) (fresh_system n) (system_in b)
    → system_in c ≡ fresh_system n
unfolding pick
fresh_in b c n long put = put ∙ rw (eq-eqb (length b) image_width long)
