-- `list::perform_all`: as many orders are obeyed as there were turns, and the others are still to come.
use Prim.Native.Nat.{◌*◌, min}
use mathlib.Core.Path.{◌≡◌}
use mathlib.Core.Bool.{true}
use lib.ListN.{length, take, drop}
use Rattle.std.specs.Slice.Iter.{chunks_rest, chunks_size}
use Rattle.sound.specs.Sound.{sound_system}
use Rattle.image.specs.Image.{system_in}
use Rattle.list.specs.List.{order_count, all_refused}
use Rattle.list.proofs.Lists.{SoFar}
use Rattle.list.proofs.perform_all.Given as goal

abbrev pub invariant-loop-number : goal.invariant-loop-number
invariant-loop-number l =
    (chunks_size l.orders ≡ 4)
    × (chunks_rest l.orders ≡ drop (4 * l.number-index) l.list)
    × (l.good ≡ sound_system (system_in l.image))
    × SoFar l.list (system_in l.initial.image) l.initial.numbers (min (length l.initial.numbers) (order_count l.list)) l.number-index (system_in l.image) l.numbers
    × (all_refused (take l.number-index l.numbers) ≡ true → l.image ≡ l.initial.image)
