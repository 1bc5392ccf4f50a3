-- What the private functions promise: where each part begins in an image, and the bytes that are read or written there.
use Rattle.std.specs.Prelude.{ℕ, ◌+◌, ◌*◌, List, ◌++◌, Option, None, Some, option_map, option_and_then, eqb, length, take, drop, replicate}
use Rattle.view.specs.Logic.{pick, place_of}
use Rattle.system.specs.System.{channel_number}
use Rattle.image.specs.Image.{message_width, channel_width, record_width, records_place, history_place, process_width, processes_place, channels_place, trust_place, image_width}

-- where an image begins, if the bytes are one
unfoldable pub image_start : List ℕ → Option ℕ
image_start b = pick (eqb (length b) image_width) (Some 0) None

-- where row k begins, of n rows of w bytes that begin s bytes after a place, if there are such a place and such a row
unfoldable pub row_after : Option ℕ → ℕ → ℕ → ℕ → ℕ → Option ℕ
row_after place s w n k = option_and_then (λ r. option_map (λ j. r + s + w * j) (place_of n k)) place

-- process p; what it has recorded from process q; and its entry at index i
unfoldable pub process_row : List ℕ → ℕ → Option ℕ
process_row b p = row_after (image_start b) processes_place process_width 8 p

unfoldable pub record_row : List ℕ → ℕ → ℕ → Option ℕ
record_row b p q = row_after (process_row b p) records_place record_width 8 q

unfoldable pub entry_row : List ℕ → ℕ → ℕ → Option ℕ
entry_row b p i = row_after (process_row b p) history_place 1 32 i

-- the channel from process q to process p, and its slot k
unfoldable pub channel_row : List ℕ → ℕ → ℕ → Option ℕ
channel_row b q p = row_after (image_start b) channels_place channel_width 64 (channel_number q p)

unfoldable pub slot_row : List ℕ → ℕ → ℕ → ℕ → Option ℕ
slot_row b q p k = row_after (channel_row b q p) 0 message_width 8 k

-- the set of those that process p may trust again
unfoldable pub trust_row : List ℕ → ℕ → Option ℕ
trust_row b p = row_after (image_start b) trust_place 1 8 p

-- n bytes from a place on; zeros where there is none
abbrev pub bytes_read : ℕ → List ℕ → Option ℕ → List ℕ
bytes_read n b None = replicate n 0
bytes_read n b (Some r) = take n (drop r b)

-- the bytes with others written from a place on, if there is one
abbrev pub with_bytes : List ℕ → Option ℕ → List ℕ → List ℕ
with_bytes b None x = b
with_bytes b (Some r) x = take r b ++ (x ++ drop (r + length x) b)
