-- Laws of channels: what waits after a message is put at the end, and after the oldest has come off.
use Prim.Native.Nat.{ℕ, zero, suc, ◌-◌, ◌≤◌, ◌<◌}
use mathlib.Core.Path.{◌≡◌, refl, sym, ◌∙◌}
use mathlib.Core.List.{List, [], ◌∷◌, ◌++◌}
use Rattle.std.specs.Prelude.{Some}
use native.Mathlib.Omega.{arith}
use native.Mathlib.Numerals.{add-one, sub-one}
use native.Mathlib.Nat.{not-suc-le-zero}
use borrow.Author.Tests.{lt-ltb, ltb-true, ltb-false}
use lib.Dec.{ltb}
use lib.ListN.{length, get_or, take, drop, length-set, length-append, length-drop, length-take}
use lib.Seq.{take-suc-set, take-append-le}
use Rattle.view.specs.Logic.{pick}
use Rattle.view.proofs.Laws.{by_pick}
use Rattle.channel.specs.declared.Message.{Message}
use Rattle.channel.specs.declared.Channel.{Channel}
use Rattle.channel.specs.Channel.{empty_channel, waiting, front_of, front, pushed, popped}

first_waits : (l : List Message) (n : ℕ) (d : Message) → 0 < n → 0 < length l → front_of (take n l) ≡ Some (get_or l 0 d)
first_waits [] n d h k = absurd (not-suc-le-zero k)
first_waits (m ∷ l) zero d h k = absurd (not-suc-le-zero h)
first_waits (m ∷ l) (suc n) d h k = refl

pub front_waits : (c : Channel) (d : Message) → length c.slots ≡ 8 → 0 < c.len → front c ≡ Some (get_or c.slots 0 d)
unfolding waiting
front_waits c d e h = first_waits c.slots c.len d h (omega arith)

-- put at the end
pub push_waiting : (c : Channel) (m : Message) → length c.slots ≡ 8 → c.len < 8 → waiting (pushed c m) ≡ waiting c ++ (m ∷ [])
unfolding waiting pushed pick
push_waiting c m e h = rw (lt-ltb _ _ h, add-one, take-suc-set c.slots c.len m (omega arith))

tail_of : (l k : List Message) (n : ℕ) → length l ≡ 8 → n < 8
    → drop 1 (take (suc n) l) ≡ take n (drop 1 l ++ k)
tail_of [] k n e h = absurd (omega arith)
tail_of (m ∷ l) k n e h = sym (take-append-le n l k (omega arith))

pop_from : (c : Channel) (n : ℕ) → c.len ≡ suc n → length c.slots ≡ 8 → n < 8 → drop 1 (waiting c) ≡ waiting (popped c)
unfolding waiting popped pick
pop_from c n q e h = rw (q, lt-ltb 0 (suc n) (omega arith), sub-one) (tail_of c.slots (drop 7 c.slots) n e h)

-- the oldest comes off
pub pop_waiting : (c : Channel) → length c.slots ≡ 8 → 0 < c.len → c.len ≤ 8 → drop 1 (waiting c) ≡ waiting (popped c)
pop_waiting c e h k = pop_from c (c.len - 1) (omega arith) e (omega arith)

-- ---- the array keeps its eight slots, and the length stays within it
pub push_long : (c : Channel) (m : Message) → length c.slots ≡ 8 → length (pushed c m).slots ≡ 8
unfolding pushed
push_long c m e = by_pick (λ (d : Channel). length d.slots ≡ 8) (ltb c.len 8) _ c (λ t. length-set c.slots c.len _ ∙ e) (λ t. e)

pub pop_long : (c : Channel) → length c.slots ≡ 8 → length (popped c).slots ≡ 8
unfolding popped
pop_long c e =
    by_pick (λ (d : Channel). length d.slots ≡ 8) (ltb 0 c.len) _ c (λ t. simp (length-append, length-drop) (omega arith)) (λ t. e)

pub empty_long : length empty_channel.slots ≡ 8
unfolding empty_channel
empty_long = refl

pub push_short : (c : Channel) (m : Message) → c.len ≤ 8 → (pushed c m).len ≤ 8
unfolding pushed
push_short c m h = by_pick (λ (d : Channel). d.len ≤ 8) (ltb c.len 8) _ c (λ t. omega (arith, ltb-true c.len 8 t)) (λ t. h)

pub pop_short : (c : Channel) → c.len ≤ 8 → (popped c).len ≤ 8
unfolding popped
pop_short c h = by_pick (λ (d : Channel). d.len ≤ 8) (ltb 0 c.len) _ c (λ t. omega arith) (λ t. h)

pub empty_short : empty_channel.len ≤ 8
unfolding empty_channel
empty_short = omega arith

pub empty-waiting : waiting empty_channel ≡ []
unfolding empty_channel waiting
empty-waiting = refl

pub empty-popped : popped empty_channel ≡ empty_channel
unfolding empty_channel popped pick
empty-popped = refl

pub popped_len : (c : Channel) → (popped c).len ≡ c.len - 1
unfolding popped
popped_len c = by_pick (λ (d : Channel). d.len ≡ c.len - 1) (ltb 0 c.len) _ c (λ t. refl) (λ t. omega (arith, ltb-false 0 c.len t))

-- as many wait as the length says
pub length-waiting : (c : Channel) → length c.slots ≡ 8 → c.len ≤ 8 → length (waiting c) ≡ c.len
unfolding waiting
length-waiting c e h = simp length-take (omega arith)
