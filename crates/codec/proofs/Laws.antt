-- Laws of rows of bytes: arrays that are made row by row, and bytes that are written part after part.
use Rattle.std.proofs.Common.{ℕ, zero, suc, ◌+◌, ◌*◌, ◌≤◌, ◌<◌, ◌≡◌, refl, sym, ◌∙◌, ap, subst, List, [], ◌∷◌, ◌++◌, map, le_of_eq, arith, length, length-append, length-drop, length-take-le, get_or, take, drop, set, replicate, length-set, take-suc-set, take_all, take_at, ext_get_or, get_or-take, Option, Some}
use Rattle.std.proofs.lemmas.List.{length-map, get_or-map}
use Rattle.std.proofs.lemmas.Slice.{take-put_mid}
use borrow.Rule.Slice.PartMut.{put_mid}
use Rattle.std.specs.Fn.{Called}
use Rattle.std.specs.Option.{MatchOption}
use Rattle.std.specs.Array.{IsFirstChunk, IsFromFnResultFrom, IsFromFnResult}
use Rattle.std.specs.Simd.{first_chunks}
use Rattle.std.specs.List.{flat_map}
use denote.Ref.{Bor}
use denote.Param.Members.{Mut}
use Rattle.view.specs.Logic.{pick}
use Rattle.view.proofs.Laws.{by_number}
use Rattle.channel.specs.Channel.{empty_channel}
use Rattle.system.specs.declared.Variables.{Variables}
use Rattle.system.specs.Process.{Pending}
use Rattle.image.specs.Image.{channel_width, record_width, records_place, history_place, concatenated, rows, byte, message_of, slot_in, channel_in, record_in, history_in, variables_in, process_in}
use Rattle.image.proofs.Laws.{Local, of_taken, rows_local}
use Rattle.image.proofs.Parts.{byte_local}

-- ---- zeros
zeros_read : channel_in (replicate channel_width 0) ≡ empty_channel
unfolding channel_in empty_channel rows slot_in message_of pick
zeros_read = refl

pub channel_of_zeros : (b : List ℕ) → b ≡ replicate channel_width 0 → channel_in b ≡ empty_channel
channel_of_zeros b e = ap channel_in e ∙ zeros_read

-- ---- an array that a loop makes: the first i of n elements of l are what f gives of those of xs
pub record Made {X A : Type 0} (n : ℕ) (f : X → A) (xs : List X) (l : List A) (i : ℕ) : Type 0 where
  pub long : length l ≡ n
  pub so_far : take i l ≡ map f (take i xs)

module _ {X A : Type 0} {n : ℕ} {f : X → A} {xs : List X} {l : List A} where
  pub all_made : {i : ℕ} → Made n f xs l i → i ≡ n → length xs ≡ n → l ≡ map f xs
  all_made {i} r end long = sym (take_all n l (le_of_eq r.long)) ∙ (rw (end, take_all n xs (le_of_eq long)) at r.so_far)

-- ---- an array that a function of the index made
-- l is what h gives of each element of xs
module _ {F X A : Type 0} (g : Mut F (ℕ × Unit {0}) A) (f : F) (l : List A) (h : X → A) (xs : List X) (d : X)
    (made : (i : ℕ) (x : A) (q : F) → Called g f (i, tt) x q → (q ≡ f) × (x ≡ h (get_or xs i d))) where
  made_from : (n i : ℕ) (p : F) → p ≡ f → IsFromFnResultFrom g p l i n → (k : ℕ) (e : A) → i ≤ k → k < i + n → get_or l k e ≡ h (get_or xs k d)
  made_from zero i p same all k e low high = absurd (omega arith)
  made_from (suc n) i p same all k e low high =
      let this = made i all.1 all.0 (subst (λ (r : F). Called g r (i, tt) all.1 all.0) same all.3) in
      by_number k i
      (λ here. rw here (all.2.1 e ∙ this.1))
      (λ other. made_from n (i + 1) all.0 this.0 all.4 k e (omega (arith, other)) (omega arith))

  pub made_of : (n : ℕ) → IsFromFnResult g f l n → length xs ≡ n → l ≡ map h xs
  made_of n all long =
      ext_get_or (h d) l (map h xs) (all.long ∙ sym (length-map xs h ∙ long))
      (λ k u. made_from n 0 f refl all.each k (h d) (omega arith) (omega (arith, all.long)) ∙ sym (get_or-map h xs k d (h d) (omega (arith, all.long))))

-- ---- rows that are read
length-chunks : (w n : ℕ) (b : List ℕ) → length (first_chunks w n b) ≡ n
length-chunks w zero b = refl
length-chunks w (suc n) b = ap suc (length-chunks w n (drop w b))

module _ {A : Type 0} {f : List ℕ → A} {w : ℕ} (local : Local w f) where
  chunks_read : (n : ℕ) (b : List ℕ) → map f (first_chunks w n b) ≡ rows n w f b
  unfolding rows
  chunks_read zero b = refl
  chunks_read (suc n) b = rw (of_taken local b, chunks_read n (drop w b))

  -- n rows of bytes b, cut into chunks
  pub rows_read : {chunks : List (List ℕ)} {k : ℕ} (n : ℕ) (b : List ℕ) → chunks ≡ first_chunks w k (take (w * n) b) → k ≡ n → map f chunks ≡ rows n w f b
  rows_read n b cut count = rw (cut, count) (chunks_read n (take (w * n) b)) ∙ of_taken (rows_local f w local n) b

  -- an array that is made of them
  pub rows_made : {F : Type 0} {g : Mut F (ℕ × Unit {0}) A} {p : F} {l : List A} {chunks : List (List ℕ)} {k : ℕ} (n : ℕ) (b : List ℕ) → IsFromFnResult g p l n
      → ((i : ℕ) (x : A) (q : F) → Called g p (i, tt) x q → (q ≡ p) × (x ≡ f (get_or chunks i [])))
      → chunks ≡ first_chunks w k (take (w * n) b) → k ≡ n → l ≡ rows n w f b
  rows_made {g = g} {p = p} {l = l} {chunks = chunks} n b all made cut count =
      made_of g p l f chunks [] made n all (ap length cut ∙ length-chunks w _ _ ∙ count) ∙ rows_read n b cut count

-- bytes are rows of one
bytes_rows : (n : ℕ) (b : List ℕ) → n ≤ length b → take n b ≡ rows n 1 (byte 0) b
unfolding rows
bytes_rows zero b h = refl
bytes_rows (suc n) [] h = absurd (omega arith)
bytes_rows (suc n) (x ∷ b) h = ap (λ (l : List ℕ). x ∷ l) (bytes_rows n b (omega arith))

-- the first n of m bytes
pub bytes_made : {n : ℕ} {r : Option (Bor (List ℕ))} {x : Bor (List ℕ)} (P : Type 0) (m : ℕ) (b : List ℕ) → MatchOption r P (λ y. IsFirstChunk (take m b) y.now n)
    → r ≡ Some x → n ≤ m → x.now ≡ rows n 1 (byte 0) b
bytes_made {n = n} {x = x} P m b chunk some fits =
    let first : IsFirstChunk (take m b) x.now n = rw some at chunk in
    first.same ∙ bytes_rows n (take m b) first.enough ∙ rows_local (byte 0) 1 byte_local n b (take m b) (λ k l. get_or-take m b k 0 (omega arith))

-- ---- a process by its parts, however each was made
pub same_process : (b : List ℕ) (x : Variables) (y : List Pending) (e : List ℕ) → x ≡ variables_in b → y ≡ rows 8 record_width record_in (drop records_place b)
    → e ≡ rows 32 1 (byte 0) (drop history_place b)
    → record { variables = x; pending = y; history = record { entries = e } } ≡ process_in b
unfolding process_in history_in
same_process b x y e vs ps es = rw (vs, ps, es)

-- ---- rows that are written
flattened : {A : Type 0} (f : A → List ℕ) (xs : List A) → flat_map (λ b. b) (map f xs) ≡ concatenated f xs
unfolding concatenated
flattened f [] = refl
flattened f (x ∷ xs) = ap (λ (b : List ℕ). f x ++ b) (flattened f xs)

-- the rows of xs that a loop made, one after the other
pub rows_written : {A : Type 0} {n i : ℕ} {f : A → List ℕ} {xs : List A} {l : List (List ℕ)} → Made n f xs l i → i ≡ n → length xs ≡ n → flat_map (λ b. b) l ≡ concatenated f xs
rows_written {f = f} {xs = xs} r end long = ap (flat_map (λ b. b)) (all_made r end long) ∙ flattened f xs

-- the first e of n bytes b are s
pub record Begun (n : ℕ) (b : List ℕ) (e : ℕ) (s : List ℕ) : Type 0 where
  pub long : length b ≡ n
  pub held : take e b ≡ s

pub first_written : {n e : ℕ} {t x : List ℕ} (rest : List ℕ) → x ≡ t → length x ≡ e → e + length rest ≡ n → Begun n (x ++ rest) e t
first_written {e = e} {x = x} rest same long all = record { long = rw (length-append, long) all; held = take_at x rest e long ∙ same }

pub one_written : {n : ℕ} (b : List ℕ) (x : ℕ) → length b ≡ n → 0 < n → Begun n (set b 0 x) 1 (x ∷ [])
one_written b x long h = record { long = length-set b 0 x ∙ long; held = take-suc-set b 0 x (omega (arith, long)) }

-- k bytes more are written from there on
pub more_written : {n a e k : ℕ} {b s t x : List ℕ} → Begun n b a s → x ≡ t → length x ≡ k → a + k ≡ e → e ≤ n → Begun n (put_mid a k b x) e (s ++ t)
more_written {a = a} {e = e} {k = k} {b = b} {x = x} p same long end room =
    record {
      long = rw (length-append, length-append, length-drop, length-drop, length-take-le a b (omega (arith, p.long))) (omega (arith, p.long));
      held = take-put_mid a k b x e (omega arith) (omega (arith, p.long)) ∙ rw (p.held, same);
    }

pub all_written : {n : ℕ} {b s : List ℕ} → Begun n b n s → b ≡ s
all_written {n} {b} p = sym (take_all n b (le_of_eq p.long)) ∙ p.held

-- a byte is a row of one
abbrev pub one_byte : ℕ → List ℕ
one_byte x = x ∷ []

pub bytes-concatenated : (l : List ℕ) → concatenated one_byte l ≡ l
unfolding concatenated
bytes-concatenated [] = refl
bytes-concatenated (x ∷ l) = ap (λ (t : List ℕ). x ∷ t) (bytes-concatenated l)
