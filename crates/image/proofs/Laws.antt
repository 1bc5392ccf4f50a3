-- Laws of rows of bytes: what is read of them, and what they are after a change of one.
use Rattle.std.proofs.Common.{ℕ, zero, suc, ◌+◌, ◌-◌, ◌*◌, ◌≤◌, ◌<◌, ◌≡◌, refl, sym, ◌∙◌, ap, List, ◌++◌, ◌⊎◌, inr, ⊎_elim, Option, None, Some, IfSome, option_map, length, get_or, set, take, drop, replicate, add-zero, add-suc, add_comm, mul-suc, mul-zero, mul-le-mul_left, le_of_suc-le-suc, not-suc-le-zero, arith, length-append, length-drop, length-take-le, get_or-set_other, get_or-take, get_or-drop, drop-drop, drop_at}
use Rattle.std.proofs.lemmas.List.{get_or-append_right, get_or_append_left}
use Rattle.view.specs.Logic.{at, put, place_of}
use Rattle.view.proofs.Laws.{Placed, placed, at_placed, put_placed, at_missing, put_missing, at_replicate}
use Rattle.image.specs.Image.{rows}
use Rattle.image.specs.Places.{row_after, bytes_read, with_bytes}

-- ---- bytes that agree
-- in the first n
abbrev pub Same : ℕ → List ℕ → List ℕ → Type 0
Same n b c = (k : ℕ) → k < n → get_or c k 0 ≡ get_or b k 0

-- before lo, and from hi on
pub record Outside (lo hi : ℕ) (b c : List ℕ) : Type 0 where
  pub before : (k : ℕ) → k < lo → get_or c k 0 ≡ get_or b k 0
  pub after : (k : ℕ) → hi ≤ k → get_or c k 0 ≡ get_or b k 0

pub unchanged : {lo hi : ℕ} {b : List ℕ} → Outside lo hi b b
unchanged = record { before = λ k l. refl; after = λ k l. refl }

-- one byte between them is written
pub written : {lo hi : ℕ} {b c : List ℕ} (i x : ℕ) → lo ≤ i → i < hi → Outside lo hi b c → Outside lo hi b (set c i x)
written {c = c} i x l u o =
    record {
      before = λ k h. get_or-set_other c i k x 0 (λ e. omega arith) ∙ o.before k h;
      after = λ k h. get_or-set_other c i k x 0 (λ e. omega arith) ∙ o.after k h;
    }

pub wider : {lo hi lo' hi' : ℕ} {b c : List ℕ} → lo' ≤ lo → hi ≤ hi' → Outside lo hi b c → Outside lo' hi' b c
wider l h o = record { before = λ k u. o.before k (omega arith); after = λ k u. o.after k (omega arith) }

pub and_then : {lo hi : ℕ} {a b c : List ℕ} → Outside lo hi a b → Outside lo hi b c → Outside lo hi a c
and_then o p = record { before = λ k h. p.before k h ∙ o.before k h; after = λ k h. p.after k h ∙ o.after k h }

-- from place s on
pub past : {lo hi lo' hi' : ℕ} {b c : List ℕ} (s : ℕ) → Outside lo hi b c → lo ≡ s + lo' → hi ≡ s + hi' → Outside lo' hi' (drop s b) (drop s c)
past {b = b} {c} s o l u =
    record {
      before = λ k h. get_or-drop s c k 0 ∙ o.before (s + k) (omega arith) ∙ sym (get_or-drop s b k 0);
      after = λ k h. get_or-drop s c k 0 ∙ o.after (s + k) (omega arith) ∙ sym (get_or-drop s b k 0);
    }

-- a reader that looks at the first w bytes only
abbrev pub Local : {A : Type 0} → ℕ → (List ℕ → A) → Type 0
Local w f = (b c : List ℕ) → Same w b c → f c ≡ f b

pub of_taken : {A : Type 0} {f : List ℕ → A} {w : ℕ} → Local w f → (b : List ℕ) → f (take w b) ≡ f b
of_taken {w = w} local b = local b (take w b) (λ k h. get_or-take w b k 0 h)

-- it reads the same where those bytes are
pub part_same : {A : Type 0} {f : List ℕ → A} {w : ℕ} → Local w f → (s : ℕ) (b c : List ℕ) → ((k : ℕ) → s ≤ k → k < s + w → get_or c k 0 ≡ get_or b k 0)
    → f (drop s c) ≡ f (drop s b)
part_same local s b c h =
    local (drop s b) (drop s c) (λ k l. get_or-drop s c k 0 ∙ h (s + k) (omega arith) (omega arith) ∙ sym (get_or-drop s b k 0))

pub kept : {A : Type 0} {f : List ℕ → A} {w lo hi : ℕ} {b c : List ℕ} → Local w f → Outside lo hi b c → (s : ℕ) → (s + w ≤ lo) ⊎ (hi ≤ s)
    → f (drop s c) ≡ f (drop s b)
kept {b = b} {c} local o s h =
    part_same local s b c (λ k l u. ⊎_elim (λ e. o.before k (omega arith)) (λ e. o.after k (omega arith)) h)

-- ---- rows
next_width : (w n : ℕ) → w * suc n ≡ w + w * n
next_width w n = mul-suc w n ∙ add_comm (w * n) w

pub rows_long : {A : Type 0} (n w : ℕ) (f : List ℕ → A) (b : List ℕ) → length (rows n w f b) ≡ n
unfolding rows
rows_long zero w f b = refl
rows_long (suc n) w f b = ap suc (rows_long n w f (drop w b))

module _ {A : Type 0} (f : List ℕ → A) (w : ℕ) where
  -- row k by itself
  pub row_read : (n k : ℕ) (b : List ℕ) (d : A) → k < n → get_or (rows n w f b) k d ≡ f (drop (w * k) b)
  unfolding rows
  row_read zero k b d h = absurd (not-suc-le-zero h)
  row_read (suc n) zero b d h = rw (mul-zero w)
  row_read (suc n) (suc k) b d h = row_read n k (drop w b) d (le_of_suc-le-suc h) ∙ rw (drop-drop (w * k) w b, ← next_width w k)

  pub rows_local : Local w f → (n : ℕ) → Local (w * n) (rows n w f)
  unfolding rows
  rows_local local zero b c h = refl
  rows_local local (suc n) b c h =
      let e = next_width w n in
      rw (local b c (λ k l. h k (omega arith)), part_same (rows_local local n) w b c (λ k l u. h k (omega arith)))

  -- all but the first k; and the first k before them
  pub rows_rest : (n k : ℕ) (b : List ℕ) → drop k (rows (n + k) w f b) ≡ rows n w f (drop (w * k) b)
  unfolding rows
  rows_rest n zero b = rw (add-zero n, mul-zero w)
  rows_rest n (suc k) b = rw (add-suc n k) (rows_rest n k (drop w b) ∙ rw (drop-drop (w * k) w b, ← next_width w k))

  pub rows_split : (n k : ℕ) (b : List ℕ) → rows (n + k) w f b ≡ rows k w f b ++ rows n w f (drop (w * k) b)
  unfolding rows
  rows_split n zero b = rw (add-zero n, mul-zero w)
  rows_split n (suc k) b = rw (add-suc n k, rows_split n k (drop w b), drop-drop (w * k) w b, ← next_width w k)

  -- the rows after a change of row k
  pub rows-set : Local w f → (n k : ℕ) (b c : List ℕ) → k < n → Outside (w * k) (w * k + w) b c → rows n w f c ≡ set (rows n w f b) k (f (drop (w * k) c))
  unfolding rows
  rows-set local zero k b c h o = absurd (not-suc-le-zero h)
  rows-set local (suc n) zero b c h o = rw (mul-zero w, kept (rows_local local n) o w (inr (omega (arith, mul-zero w))))
  rows-set local (suc n) (suc k) b c h o =
      rw (
        local b c (λ j l. o.before j (omega (arith, next_width w k))),
        rows-set local n k (drop w b) (drop w c) (le_of_suc-le-suc h) (past w o (next_width w k) (omega (arith, next_width w k))),
        drop-drop (w * k) w c,
        ← next_width w k,
      )

-- ---- what is read at a place
-- what f reads there; d where there is no such place
abbrev pub reading : {A : Type 0} → (List ℕ → A) → A → List ℕ → Option ℕ → A
reading f d b None = d
reading f d b (Some r) = f (drop r b)

-- it looks at no more bytes than were read, and zeros hold d
pub read_back : {A : Type 0} (f : List ℕ → A) (d : A) (n : ℕ) (b : List ℕ) (place : Option ℕ) → Local n f → f (replicate n 0) ≡ d
    → f (bytes_read n b place) ≡ reading f d b place
read_back f d n b None local e = e
read_back f d n b (Some r) local e = of_taken local (drop r b)

module _ {A : Type 0} (f : List ℕ → A) (w n s k : ℕ) where
  -- row k of n rows that begin s bytes after place r
  pub row_at : (r : ℕ) (b : List ℕ) (d : A) → at (rows n w f (drop (r + s) b)) k d ≡ reading f d b (row_after (Some r) s w n k)
  unfolding row_after
  row_at r b d = go (place_of n k) (placed n k)
    where
      long : length (rows n w f (drop (r + s) b)) ≡ n
      long = rows_long n w f (drop (r + s) b)

      go : (place : Option ℕ) → Placed n k place → at (rows n w f (drop (r + s) b)) k d ≡ reading f d b (option_map (λ j. r + s + w * j) place)
      go None h = at_missing _ n k long d h
      go (Some j) h = at_placed _ n k long j d h ∙ row_read f w n j (drop (r + s) b) d h.0 ∙ ap f (drop-drop (w * j) (r + s) b)

  -- of rows that are a part of what g reads at a place
  pub row_within : {B : Type 0} (g : List ℕ → B) (d : B) (rows_of : B → List A) (e : A) (b : List ℕ) (place : Option ℕ)
      → ((c : List ℕ) → rows_of (g c) ≡ rows n w f (drop s c)) → rows_of d ≡ replicate n e
      → at (rows_of (reading g d b place)) k e ≡ reading f e b (row_after place s w n k)
  unfolding row_after
  row_within g d rows_of e b None is none = ap (λ l. at l k e) none ∙ at_replicate n k e
  row_within g d rows_of e b (Some r) is none = ap (λ l. at l k e) (is (drop r b)) ∙ ap (λ m. at (rows n w f m) k e) (drop-drop s r b) ∙ row_at r b e

-- ---- what a change at a place leaves
-- bytes b become bytes c: what f reads in the w bytes from place r on is changed by g, and nothing else is
pub record ChangedAt {A : Type 0} (f : List ℕ → A) (w : ℕ) (g : A → A) (b c : List ℕ) (r : ℕ) : Type 0 where
  pub long : length c ≡ length b
  pub outside : Outside r (r + w) b c
  pub inside : f (drop r c) ≡ g (f (drop r b))

-- where there is no such place, nothing is
abbrev pub Changed : {A : Type 0} → (List ℕ → A) → ℕ → (A → A) → List ℕ → List ℕ → Option ℕ → Type 0
Changed f w g b c None = c ≡ b
Changed f w g b c (Some r) = ChangedAt f w g b c r

-- bytes x are written at place r
module _ (b : List ℕ) (r : ℕ) (x : List ℕ) (w : ℕ) (long : length x ≡ w) (room : r + w ≤ length b) where
  front : length (take r b) ≡ r
  front = length-take-le r b (omega arith)

  pub written_length : length (with_bytes b (Some r) x) ≡ length b
  written_length = simp (length-append, length-drop) (omega (arith, front))

  pub written_there : drop r (with_bytes b (Some r) x) ≡ x ++ drop (r + w) b
  written_there = drop_at (take r b) _ r front ∙ rw long

  pub written_outside : Outside r (r + w) b (with_bytes b (Some r) x)
  written_outside =
      record {
        before = λ k h. get_or_append_left (take r b) _ 0 k (omega (arith, front)) ∙ get_or-take r b k 0 h;
        after = λ k h.
            get_or-append_right (take r b) _ r k 0 front (omega arith)
            ∙ get_or-append_right x _ w (k - r) 0 long (omega arith)
            ∙ get_or-drop (r + length x) b (k - r - w) 0
            ∙ ap (λ m. get_or b m 0) (omega arith);
      }

-- bytes are written that f reads as v
pub written_changed : {A : Type 0} (f : List ℕ → A) (w : ℕ) (v : A) (b x : List ℕ) (place : Option ℕ) → length x ≡ w → ((rest : List ℕ) → f (x ++ rest) ≡ v)
    → IfSome place (λ r. r + w ≤ length b) → Changed f w (λ _. v) b (with_bytes b place x) place
written_changed f w v b x None long is room = refl
written_changed f w v b x (Some r) long is room =
    record {
      long = written_length b r x w long room;
      outside = written_outside b r x w long room;
      inside = ap f (written_there b r x w long room) ∙ is (drop (r + w) b);
    }

-- n rows from place r on, of which that numbered k is changed
pub record RowChanged {A : Type 0} (f : List ℕ → A) (w n k : ℕ) (g : A → A) (b c : List ℕ) (r : ℕ) (d : A) : Type 0 where
  pub long : length c ≡ length b
  pub outside : Outside r (r + w * n) b c
  pub inside : rows n w f (drop r c) ≡ put (rows n w f (drop r b)) k (g (at (rows n w f (drop r b)) k d))

pub row_changed : {A : Type 0} (f : List ℕ → A) (w n s k : ℕ) (g : A → A) (b c : List ℕ) (r : ℕ) (d : A) → Local w f → Changed f w g b c (row_after (Some r) s w n k)
    → RowChanged f w n k g b c (r + s) d
unfolding row_after
row_changed {A} f w n s k g b c r d local = go (place_of n k) (placed n k)
  where
    l : List A
    l = rows n w f (drop (r + s) b)

    long : length l ≡ n
    long = rows_long n w f (drop (r + s) b)

    go : (place : Option ℕ) → Placed n k place → Changed f w g b c (option_map (λ j. r + s + w * j) place) → RowChanged f w n k g b c (r + s) d
    go None h e =
        record {
          long = ap length e;
          outside = rw e unchanged;
          inside = rw e (sym (put_missing l n k long _ h));
        }
    go (Some j) h e =
        let fits : w * suc j ≤ w * n = mul-le-mul_left w h.0 in
        let next = next_width w j in
        record {
          long = e.long;
          outside = wider (omega arith) (omega arith) e.outside;
          inside = rows-set f w local n j (drop (r + s) b) (drop (r + s) c) h.0 (past (r + s) e.outside refl (omega arith))
              ∙ rw (put_placed l n k long j (g (at l k d)) h, at_placed l n k long j d h, row_read f w n j (drop (r + s) b) d h.0, drop-drop (w * j) (r + s) b, drop-drop (w * j) (r + s) c, e.inside);
        }
