-- The agreements that leave in the book just what is written: for each index from 2 on and each process, its entry with all
-- processes that hold that entry there. Each is fed to the book; one that is refused was made before.
use Prim.Native.Nat.{ℕ, zero, suc, ◌≤◌}
use mathlib.Core.Path.{◌≡◌, refl, sym, ◌∙◌, ap, subst}
use mathlib.Core.Bool.{Bool, true, false, ◌&&◌, ◌||◌, not}
use mathlib.Core.List.{List, [], ◌∷◌, ◌++◌}
use mathlib.Core.Logic.{◌⊎◌, inl, inr, ⊎_elim}
use native.Mathlib.Omega.{arith}
use native.Mathlib.Decide.{dec_le}
use borrow.Author.Tests.{eqb-true, eq-eqb, eqb-false, ne_eqb, le-leb}
use lib.Dec.{eqb}
use Rattle.view.specs.Logic.{pick, all_up_to, each_up_to}
use Rattle.view.specs.View.{has, with}
use Rattle.view.proofs.Laws.{and_intro, all_intro, all_elim, true_is_not_false, or_right, Each, by_number, by_pick, each_as, each_keeps}
use Rattle.system.specs.declared.System.{System}
use Rattle.system.specs.System.{entry_in}
use Rattle.system.proofs.Histories.{nobody_entry}
use Rattle.agreement.specs.Accepted.{Acceptance, accepted}
use Rattle.agreement.specs.Book.{Agreement, Book, book_entry, apart, apart_from, admits, made_in, fed, fed_all, none_refused}
use Rattle.step.proofs.Frames.{Numbered}
use Rattle.agreement.proofs.Invariant.{Agreed, Reached}
use Rattle.view.proofs.Sets.{has_none, has-with, with_new, with_old}
use Rattle.agreement.proofs.Pages.{Long, made_long, made_entry}

if_named : (t b : Bool) → (t ≡ true → b ≡ true) → (not t || b) ≡ true
if_named true b h = h refl
if_named false b h = refl

or_left_not : (a b : Bool) → a ≡ false → (not a || b) ≡ true
or_left_not true b e = true_is_not_false e
or_left_not false b e = refl

not_both : (a b : Bool) → (a ≡ true → b ≡ true → ⊥) → not (a && b) ≡ true
not_both true true h = absurd (h refl refl)
not_both true false h = refl
not_both false b h = refl

-- one process is named: not none
not_none : (w p : ℕ) → Numbered p → has w p ≡ true → not (all_up_to 8 (λ u. not (has w u))) ≡ true
not_none w p number named = go (all_up_to 8 (λ u. not (has w u))) refl
  where
    go : (t : Bool) → all_up_to 8 (λ u. not (has w u)) ≡ t → not t ≡ true
    go true e = true_is_not_false (sym (all_elim 8 (λ u. not (has w u)) e p number.low number.high) ∙ ap not named)
    go false e = refl

fed-append : (acc : List Acceptance) (b : Book) (gs hs : List Agreement) → fed_all acc b (gs ++ hs) ≡ fed_all acc (fed_all acc b gs) hs
unfolding fed_all
fed-append acc b [] hs = refl
fed-append acc b (g ∷ gs) hs = fed-append acc (fed acc b g) gs hs

-- ---- those of some agreements that are made: none of them is refused, and the book is the same
made_of : Bool → Agreement → List Agreement → List Agreement
made_of true g gs = g ∷ gs
made_of false g gs = gs

pub made_among : List Acceptance → Book → List Agreement → List Agreement
made_among acc b [] = []
made_among acc b (g ∷ gs) = made_of (admits acc b g) g (made_among acc (fed acc b g) gs)

refused_same : (acc : List Acceptance) (b : Book) (g : Agreement) → admits acc b g ≡ false → fed acc b g ≡ b
unfolding fed pick
refused_same acc b g e = rw e

pub made_not_refused : (acc : List Acceptance) (b : Book) (gs : List Agreement) → none_refused acc b (made_among acc b gs) ≡ true
unfolding made_among none_refused made_of
made_not_refused acc b [] = refl
made_not_refused acc b (g ∷ gs) = go (admits acc b g) refl (made_not_refused acc (fed acc b g) gs)
  where
    go : (t : Bool) → admits acc b g ≡ t → none_refused acc (fed acc b g) (made_among acc (fed acc b g) gs) ≡ true
        → none_refused acc b (made_of t g (made_among acc (fed acc b g) gs)) ≡ true
    go true e k = and_intro e k
    go false e k = subst (λ (c : Book). none_refused acc c (made_among acc (fed acc b g) gs) ≡ true) (refused_same acc b g e) k

pub made_same_book : (acc : List Acceptance) (b : Book) (gs : List Agreement) → fed_all acc b (made_among acc b gs) ≡ fed_all acc b gs
unfolding made_among fed_all made_of
made_same_book acc b [] = refl
made_same_book acc b (g ∷ gs) = go (admits acc b g) refl (made_same_book acc (fed acc b g) gs)
  where
    go : (t : Bool) → admits acc b g ≡ t → fed_all acc (fed acc b g) (made_among acc (fed acc b g) gs) ≡ fed_all acc (fed acc b g) gs
        → fed_all acc b (made_of t g (made_among acc (fed acc b g) gs)) ≡ fed_all acc (fed acc b g) gs
    go true e k = k
    go false e k = subst (λ (c : Book). fed_all acc c (made_among acc (fed acc b g) gs) ≡ fed_all acc (fed acc b g) gs) (refused_same acc b g e) k

module _ (s : System) (acc : List Acceptance) (r : Reached s acc) where
  -- a process of another number has no entries
  pub numbered_or_none : (w : ℕ) → Numbered w ⊎ ((j : ℕ) → entry_in s w j ≡ 0)
  numbered_or_none w =
      elim (dec_le 1 w) [
        | yes l ↦
            elim (dec_le w 8) [
              | yes h ↦ inl (record { low = l; high = h })
              | no h ↦ inr (nobody_entry s w (λ a b. h (omega (arith, r.shape.processes))))
            ]
        | no l ↦ inr (nobody_entry s w (λ a. absurd (l a)))
      ]

  -- ---- the processes that hold a view at an index
  holder : ℕ → ℕ → ℕ → ℕ → ℕ
  holder v i w b = pick (eqb (entry_in s w i) v) (with b w) b

  holders : ℕ → ℕ → ℕ
  holders v i = each_up_to 8 (holder v i) 0

  holder_entry : (v i u : ℕ) → has (holders v i) u ≡ true → entry_in s u i ≡ v
  unfolding holders holder
  holder_entry v i =
      each_keeps (λ b. (u : ℕ) → has b u ≡ true → entry_in s u i ≡ v) 8 (holder v i)
      (λ w l h b k u.
      by_pick (λ (c : ℕ). has c u ≡ true → entry_in s u i ≡ v) (eqb (entry_in s w i) v) (with b w) b
      (λ e n. ⊎_elim (k u) (λ q. ap (λ (z : ℕ). entry_in s z i) q ∙ eqb-true (entry_in s w i) v e) (has-with b w u l h n))
      (λ e. k u))
      0
      (λ u n. absurd (has_none u n))

  holds_upto : (v i u : ℕ) → 1 ≤ u → entry_in s u i ≡ v → (k : ℕ) → u ≤ k → k ≤ 8 → has (each_up_to k (holder v i) 0) u ≡ true
  unfolding each_up_to holder
  holds_upto v i u l e zero a b = absurd (omega arith)
  holds_upto v i u l e (suc k) a b =
      by_pick (λ (c : ℕ). has c u ≡ true) (eqb (entry_in s (suc k) i) v) _ _
      (λ t.
      by_number u (suc k)
      (λ q. subst (λ (z : ℕ). has (with (each_up_to k (holder v i) 0) (suc k)) z ≡ true) (sym q) (with_new (each_up_to k (holder v i) 0) (suc k) (omega arith) b))
      (λ f. with_old (each_up_to k (holder v i) 0) (suc k) u (omega arith) b (holds_upto v i u l e k (omega arith) (omega arith))))
      (λ t.
      by_number u (suc k)
      (λ q. absurd (eqb-false (entry_in s (suc k) i) v t (ap (λ (z : ℕ). entry_in s z i) (sym q) ∙ e)))
      (λ f. holds_upto v i u l e k (omega arith) (omega arith)))

  holds : (v i u : ℕ) → Numbered u → entry_in s u i ≡ v → has (holders v i) u ≡ true
  unfolding holders
  holds v i u number e = holds_upto v i u number.low e 8 number.high (omega arith)

  abbrev candidate : ℕ → ℕ → Agreement
  candidate p i = record { view = entry_in s p i; index = i; recipients = holders (entry_in s p i) i }

  -- ---- a book on the way
  abbrev pub InBook : Book → ℕ → ℕ → Type 0
  InBook b p i = book_entry b p i ≡ entry_in s p i

  pub record Feeding (b : Book) : Type 0 where
    pub long : Long b.histories
    pub agrees : (p i : ℕ) → (book_entry b p i ≡ 0) ⊎ InBook b p i
    -- an entry that is in the book for one process is there for all that hold it
    pub together : (u w i : ℕ) → (book_entry b u i ≡ 0 → ⊥) → entry_in s w i ≡ book_entry b u i → InBook b w i
    pub made : Each (λ g. Agreed acc g.view g.index × ((w : ℕ) → entry_in s w g.index ≡ g.view → InBook b w g.index)) b.made

  -- ---- an entry that is not in the book yet is admitted
  module _ (b : Book) (f : Feeding b) (p i : ℕ) (number : Numbered p) (low : 2 ≤ i) (order : b.last ≤ i) (some : entry_in s p i ≡ 0 → ⊥) (missing : book_entry b p i ≡ 0) where
    -- no view that shares a process with the entry is in the book there
    alone : (u v : ℕ) → has (entry_in s p i) u ≡ true → accepted acc u v i ≡ true → v ≡ entry_in s p i
    alone u v named a = r.one_view u v (entry_in s p i) i a ((r.entries p i low some).agreed u named)

    empty_there : (u : ℕ) → has (entry_in s p i) u ≡ true → book_entry b u i ≡ 0
    empty_there u named = grind (arith, alone)

    apart_from_made : (gs : List Agreement) → Each (λ g. Agreed acc g.view g.index × ((w : ℕ) → entry_in s w g.index ≡ g.view → InBook b w g.index)) gs
        → apart_from (candidate p i) gs ≡ true
    unfolding apart_from apart
    apart_from_made [] e = refl
    apart_from_made (g ∷ gs) e =
        and_intro
        (by_number g.index i
        (λ q. or_right (not (eqb g.index i)) _ (all_intro 8 _ (λ u l h. no_share g e.0.0 e.0.1 q u)))
        (λ n. or_left_not (eqb g.index i) _ (ne_eqb g.index i n)))
        (apart_from_made gs e.1)
      where
        no_share : (g : Agreement) → Agreed acc g.view g.index → ((w : ℕ) → entry_in s w g.index ≡ g.view → InBook b w g.index) → g.index ≡ i → (u : ℕ)
            → not (has g.view u && has (entry_in s p i) u) ≡ true
        no_share g agreed in_book q u =
            not_both (has g.view u) (has (entry_in s p i) u)
            (λ mine yours.
            let same = alone u g.view yours (subst (λ (j : ℕ). accepted acc u g.view j ≡ true) q (agreed u mine)) in
            let here = in_book p (ap (entry_in s p) q ∙ sym same) in
            some (sym (ap (entry_in s p) q) ∙ sym here ∙ ap (book_entry b p) q ∙ missing))

    admitted : admits acc b (candidate p i) ≡ true
    unfolding admits
    admitted =
        and_intro
        (and_intro
        (and_intro
        (and_intro
        (and_intro
        (all_intro 8 _ (λ u l h. if_named (has (entry_in s p i) u) _ ((r.entries p i low some).agreed u)))
        (le-leb b.last i order))
        (all_intro 8 _ (λ u l h. if_named (has (entry_in s p i) u) _ (λ named. ap (λ (t : Bool). not (not t)) (eq-eqb (book_entry b u i) 0 (empty_there u named))))))
        (apart_from_made b.made f.made))
        (not_none (holders (entry_in s p i) i) p number (holds (entry_in s p i) i p number refl)))
        (all_intro 8 _
        (λ u l h.
        if_named (has (holders (entry_in s p i) i) u) _
        (λ named.
        let e = holder_entry (entry_in s p i) i u named in
        subst (λ (v : ℕ). has v u ≡ true) e (r.entries u i low (λ z. some (sym e ∙ z))).own)))

  -- ---- one agreement is fed
  module _ (b : Book) (f : Feeding b) (p i : ℕ) (low : 2 ≤ i) (high : i ≤ 32) where
    abbrev g : Agreement
    g = candidate p i

    -- an entry after the agreement is made: the entry of a holder, or as before
    each_made : (w j : ℕ) (P : ℕ → Type 0) → (has g.recipients w ≡ true → j ≡ i → P (entry_in s w j))
        → ((has g.recipients w ≡ true → j ≡ i → ⊥) → P (book_entry b w j))
        → P (book_entry (made_in b g) w j)
    unfolding book_entry made_in
    each_made w j P here there =
        made_entry g (omega arith) high w j P b.histories f.long
        (λ n q. subst P (ap (entry_in s w) q ∙ holder_entry (entry_in s p i) i w n) (here n q))
        there

    -- what is in the book stays
    made_in_book : (w j : ℕ) → InBook b w j → InBook (made_in b g) w j
    made_in_book w j e = each_made w j (λ v. v ≡ entry_in s w j) (λ h q. refl) (λ h. e)

    holder_in_book : (w j : ℕ) → j ≡ i → entry_in s w j ≡ entry_in s p i → InBook (made_in b g) w j
    holder_in_book w j q e =
        ⊎_elim
        (λ number. each_made w j (λ v. v ≡ entry_in s w j) (λ h k. refl) (λ n. absurd (n (holds (entry_in s p i) i w number (ap (entry_in s w) (sym q) ∙ e)) q)))
        (λ none. each_made w j (λ v. v ≡ entry_in s w j) (λ h k. refl) (λ n. ⊎_elim (λ z. z ∙ sym (none j)) (λ k. k) (f.agrees w j)))
        (numbered_or_none w)

    made_feeding : Agreed acc (entry_in s p i) i → Feeding (made_in b g)
    unfolding made_in
    made_feeding agreed =
        record {
          long = made_long g b.histories f.long;
          agrees = λ w j. each_made w j (λ v. (v ≡ 0) ⊎ (v ≡ entry_in s w j)) (λ h q. inr refl) (λ h. f.agrees w j);
          together = λ u w j.
              each_made u j (λ v. (v ≡ 0 → ⊥) → entry_in s w j ≡ v → InBook (made_in b g) w j)
              (λ h q some same. holder_in_book w j q (same ∙ ap (entry_in s u) q ∙ holder_entry (entry_in s p i) i u h))
              (λ h some same. made_in_book w j (f.together u w j some same));
          made = (
            (agreed, λ w e. holder_in_book w i refl e),
            each_as
                (λ h. Agreed acc h.view h.index × ((w : ℕ) → entry_in s w h.index ≡ h.view → InBook b w h.index))
                (λ h. Agreed acc h.view h.index × ((w : ℕ) → entry_in s w h.index ≡ h.view → InBook (made_in b g) w h.index))
                (λ h k. (k.0, λ w e. made_in_book w h.index (k.1 w e)))
                b.made
                f.made,
          );
        }

    feed_feeding : Feeding (fed acc b g)
    unfolding fed
    feed_feeding = by_pick Feeding (admits acc b g) (made_in b g) b (λ e. made_feeding (agreed e)) (λ e. f)
      where
        agreed : admits acc b g ≡ true → Agreed acc (entry_in s p i) i
        agreed e u named =
            by_number (entry_in s p i) 0
            (λ z. absurd (has_none u (subst (λ (v : ℕ). has v u ≡ true) z named)))
            (λ some. (r.entries p i low some).agreed u named)

    feed_in_book : (w j : ℕ) → InBook b w j → InBook (fed acc b g) w j
    unfolding fed
    feed_in_book w j e = by_pick (λ (c : Book). InBook c w j) (admits acc b g) (made_in b g) b (λ t. made_in_book w j e) (λ t. e)

    feed_last : b.last ≤ i → (fed acc b g).last ≤ i
    unfolding fed made_in
    feed_last l = by_pick (λ (c : Book). c.last ≤ i) (admits acc b g) (made_in b g) b (λ t. omega arith) (λ t. l)

    -- the entry itself is then in the book
    feed_this : Numbered p → b.last ≤ i → InBook (fed acc b g) p i
    unfolding fed
    feed_this number order =
        by_pick (λ (c : Book). InBook c p i) (admits acc b g) (made_in b g) b
        (λ t. holder_in_book p i refl refl)
        (λ t.
        by_number (book_entry b p i) 0
        (λ missing.
        by_number (entry_in s p i) 0
        (λ none. missing ∙ sym none)
        (λ some. true_is_not_false (sym (admitted b f p i number low order some missing) ∙ t)))
        (λ there. ⊎_elim (λ z. absurd (there z)) (λ e. e) (f.agrees p i)))

  -- ---- all of them, index after index
  candidates_at : ℕ → ℕ → List Agreement
  candidates_at i zero = []
  candidates_at i (suc k) = candidates_at i k ++ (candidate (suc k) i ∷ [])

  -- those at the m indices from 2 on
  pub candidates : ℕ → List Agreement
  candidates zero = []
  candidates (suc m) = candidates m ++ candidates_at (suc (suc m)) 8

  -- c is what b has become: the entries named by Q are in the book
  pub record Fed (b c : Book) (i : ℕ) (Q : ℕ → ℕ → Type 0) : Type 0 where
    pub feeding : Feeding c
    pub last : c.last ≤ i
    pub kept : (w j : ℕ) → InBook b w j → InBook c w j
    pub in_book : (w j : ℕ) → Q w j → InBook c w j

  abbrev UpTo : ℕ → ℕ → ℕ → ℕ → Type 0
  UpTo i k w j = (1 ≤ w) × (w ≤ k) × (j ≡ i)

  fed_at : (b : Book) (i k : ℕ) → 2 ≤ i → i ≤ 32 → k ≤ 8 → Feeding b → b.last ≤ i → Fed b (fed_all acc b (candidates_at i k)) i (UpTo i k)
  unfolding candidates_at fed_all
  fed_at b i zero l h u f o = grind arith
  fed_at b i (suc k) l h u f o =
      let before = fed_at b i k l h (omega arith) f o in
      let c = fed_all acc b (candidates_at i k) in
      rw (fed-append acc b (candidates_at i k) (candidate (suc k) i ∷ []))
      (record {
        feeding = feed_feeding c before.feeding (suc k) i l h;
        last = feed_last c before.feeding (suc k) i l h before.last;
        kept = λ w j e. feed_in_book c before.feeding (suc k) i l h w j (before.kept w j e);
        in_book = λ w j q.
            by_number w (suc k)
            (λ e. rw (e, q.2) (feed_this c before.feeding (suc k) i l h (record { low = omega arith; high = u }) before.last))
            (λ n. feed_in_book c before.feeding (suc k) i l h w j (before.in_book w j (q.0, omega arith, q.2)));
      })

  abbrev pub Through : ℕ → ℕ → ℕ → Type 0
  Through m w j = Numbered w × (2 ≤ j) × (j ≤ suc m)

  pub fed_through : (b : Book) (m : ℕ) → m ≤ 31 → Feeding b → b.last ≤ 1 → Fed b (fed_all acc b (candidates m)) (suc m) (Through m)
  unfolding candidates fed_all
  fed_through b zero h f o = grind arith
  fed_through b (suc m) h f o =
      let before = fed_through b m (omega arith) f o in
      let c = fed_all acc b (candidates m) in
      let row = fed_at c (suc (suc m)) 8 (omega arith) (omega arith) (omega arith) before.feeding (omega (arith, before.last)) in
      rw (fed-append acc b (candidates m) (candidates_at (suc (suc m)) 8))
      (record {
        feeding = row.feeding;
        last = row.last;
        kept = λ w j e. row.kept w j (before.kept w j e);
        in_book = λ w j q.
            by_number j (suc (suc m))
            (λ e. row.in_book w j (q.0.low, q.0.high, e))
            (λ n. row.kept w j (before.in_book w j (q.0, q.1, omega arith)));
      })
