-- An orderly system at rest, and a view that its processes share: each of them has that view at PropOut of the least of them, and nothing
-- past it.
use Prim.Native.Nat.{ℕ, zero, suc, ◌≤◌, ◌<◌, ◌+◌}
use mathlib.Core.Path.{◌≡◌, refl, sym, ◌∙◌, ap, subst}
use mathlib.Core.Bool.{Bool, true, false, ◌&&◌, not}
use mathlib.Core.List.{List, []}
use native.Mathlib.Omega.{arith}
use borrow.Author.Tests.{eqb-true, eq-eqb, ne_eqb, ltb-true, not-true}
use lib.Dec.{eqb, ltb}
use Rattle.std.specs.Prelude.{None, Some, Any}
use Rattle.view.specs.Logic.{pick, all_up_to}
use Rattle.view.specs.View.{has, within, subset, everyone, least_of}
use Rattle.view.proofs.Laws.{and_left, and_right, all_elim, by_number, true_is_not_false}
use Rattle.view.proofs.Sets.{has_number, has_inside, not_empty}
use Rattle.channel.specs.declared.Channel.{Channel}
use Rattle.channel.specs.Channel.{waiting}
use Rattle.system.specs.declared.Variables.{Variables}
use Rattle.system.specs.declared.System.{System}
use Rattle.system.specs.Process.{pending_at, Pending}
use Rattle.system.specs.System.{process_at, variables_at, channel_at, entry_in}
use Rattle.sound.specs.Sound.{sound_pending}
use Rattle.step.specs.Rest.{idle_from, matches, answerable, resting_from, resting_at, at_rest}
use Rattle.step.proofs.Soundness.{Sound, SoundVariables, proposal_facts}
use Rattle.step.proofs.Cases.{waiting_at, Known}
use Rattle.agreement.specs.Accepted.{Acceptance, accepted}
use Rattle.agreement.proofs.Invariant.{Recorded}
use Rattle.quiet.specs.Quiet.{last_up_to, last_non_empty, local_if_named, is_common, Final}
use Rattle.view.proofs.Members.{least_named, part_by_processes}
use Rattle.quiet.proofs.Remains.{none_of_empty}
use Rattle.quiet.proofs.Standing.{Followed, Untouched}
use Rattle.quiet.proofs.Pursuit.{Notes, Underway, asked, noted, replied, marked, Concluded, announced, written}
use Rattle.quiet.proofs.Orderly.{Orderly}

-- ---- the last non-empty index
pub last_is : (s : System) (p o i : ℕ) → 1 ≤ o → o ≤ i → (entry_in s p o ≡ 0 → ⊥) → ((j : ℕ) → o < j → entry_in s p j ≡ 0) → last_up_to i s p ≡ o
unfolding last_up_to pick
last_is s p o zero low high some none = absurd (omega arith)
last_is s p o (suc i) low high some none =
    by_number (suc i) o
    (λ e. rw (e, ne_eqb (entry_in s p o) 0 some))
    (λ h. rw (eq-eqb (entry_in s p (suc i)) 0 (none (suc i) (omega arith))) (last_is s p o i low (omega arith) some none))

-- ---- at rest
pub record Resting (s : System) : Type 0 where
  pub empty : (q p : ℕ) → Known s q → Known s p → waiting_at s q p ≡ []
  pub unanswerable : (p q : ℕ) → Known s p → Known s q → (variables_at s p).crashed ≡ false → matches (variables_at s p).view (pending_at (process_at s p) q) ≡ false

none_waiting : (c : Channel) → c.len ≡ 0 → waiting c ≡ []
unfolding waiting
none_waiting c e = rw e

not_both : (crashed b : Bool) → crashed ≡ false → (not crashed && b) ≡ false → b ≡ false
not_both true b live e = true_is_not_false live
not_both false b live e = e

pub rest_facts : (s : System) → at_rest s ≡ true → Resting s
unfolding at_rest resting_at resting_from idle_from answerable
rest_facts s e =
    record {
      empty = λ q p kq kp. none_waiting (channel_at s q p) (eqb-true (channel_at s q p).len 0 (and_left (idle_from s p q) (not (answerable s p q)) (both p q kp kq)));
      unanswerable = λ p q kp kq live.
          not_both (variables_at s p).crashed (matches (variables_at s p).view (pending_at (process_at s p) q)) live
          (not-true (answerable s p q) (and_right (idle_from s p q) (not (answerable s p q)) (both p q kp kq)));
    }
  where
    both : (p q : ℕ) → Known s p → Known s q → resting_from s p q ≡ true
    both p q kp kq =
        all_elim s.n (resting_from s p) (all_elim s.n (resting_at s) e p kp.low kp.high) q kq.low kq.high

-- ---- a view that its processes share
pub record Common (s : System) (v : ℕ) : Type 0 where
  pub byte : v < 256
  pub inside : within s.n v ≡ true
  pub live : (k : ℕ) → has v k ≡ true → (variables_at s k).crashed ≡ false
  pub view : (k : ℕ) → has v k ≡ true → (variables_at s k).view ≡ v

pub common_facts : (s : System) (v : ℕ) → is_common s v ≡ true → Common s v
unfolding is_common local_if_named
common_facts s v e =
    let named = ltb v 256 && within s.n v in
    let all = all_up_to 8 (local_if_named s v) in
    let first = and_left named all e in
    record {
      byte = ltb-true v 256 (and_left (ltb v 256) (within s.n v) first);
      inside = and_right (ltb v 256) (within s.n v) first;
      live = λ k h. not-true (variables_at s k).crashed (and_left (not (variables_at s k).crashed) (eqb (variables_at s k).view v) (local k h));
      view = λ k h. eqb-true (variables_at s k).view v (and_right (not (variables_at s k).crashed) (eqb (variables_at s k).view v) (local k h));
    }
  where
    local : (k : ℕ) → has v k ≡ true → (not (variables_at s k).crashed && eqb (variables_at s k).view v) ≡ true
    local k h =
        let b = has_number v k h in
        rw h at (all_elim 8 (local_if_named s v) (and_right (ltb v 256 && within s.n v) (all_up_to 8 (local_if_named s v)) e) k b.0 b.1)

-- ---- at rest, of a view that its processes share
-- each process has the view of all at index 1, and counts as having accepted it there
pub record Begun (s : System) (acc : List Acceptance) : Type 0 where
  pub entry : (u : ℕ) → Known s u → entry_in s u 1 ≡ everyone s.n
  pub opened : (u : ℕ) → Known s u → accepted acc u (everyone s.n) 1 ≡ true

-- what is recorded at the index of the last proposal has its view
matched : (at : ℕ → Variables) (p : ℕ) (y : Pending) → Notes (at p).propout.0 y → Recorded at p y → ((at p).proposal ≡ 0 → ⊥)
    → matches (at p).proposal y ≡ true
unfolding matches
matched at p None e recorded some = absurd e
matched at p (Some r) e recorded some = eq-eqb r.view (at p).proposal (recorded.same e some)

-- a sound record, from process q at process u
noted_facts : (n q u : ℕ) (at : ℕ → Variables) (o : ℕ) (y : Pending) → sound_pending n q u y ≡ true → Notes o y → Recorded at q y
    → (2 ≤ o) × (o ≡ (at q).propout.0 → ((at q).proposal ≡ 0 → ⊥) → has (at q).proposal u ≡ true)
unfolding sound_pending
noted_facts n q u at o None sound e recorded = absurd e
noted_facts n q u at o (Some r) sound e recorded = grind (arith, proposal_facts)

module _ {gone : ℕ → Bool} {s : System} {acc : List Acceptance} (orderly : Orderly gone s acc) (sound : Sound s) (begun : Begun s acc) (resting : Resting s) {v : ℕ}
    (common : Common s v) (stays : (k : ℕ) → has v k ≡ true → gone k ≡ false) (leader : has v (least_of v).0 ≡ true) where
  -- its least process, and PropOut of that one
  abbrev p : ℕ
  p = (least_of v).0

  abbrev o : ℕ
  o = (variables_at s (least_of v).0).propout.0

  pub known : (u : ℕ) → has v u ≡ true → Known s u
  known u h = grind (arith, has_number, has_inside)

  least : (least_of (variables_at s (least_of v).0).view).0 ≡ (least_of v).0
  least = ap (λ (w : ℕ). (least_of w).0) (common.view p leader)

  pub own : SoundVariables s.n (least_of v).0 (variables_at s (least_of v).0)
  own = grind (arith, known)

  -- it has proposed nothing: it is the opening view, at index 1
  module _ (none : (variables_at s (least_of v).0).proposal ≡ 0) where
    untouched : Untouched s.n (variables_at s (least_of v).0)
    untouched = orderly.standing.untouched p (known p leader).low (stays p leader) none least

    all : v ≡ everyone s.n
    all = sym (common.view p leader) ∙ untouched.all

    opening_written : (u : ℕ) → has v u ≡ true → entry_in s u (variables_at s (least_of v).0).propout.0 ≡ v
    opening_written u h = ap (entry_in s u) untouched.first ∙ begun.entry u (known u h) ∙ sym all

    opening_accepted : (u : ℕ) → has v u ≡ true → accepted acc u v (variables_at s (least_of v).0).propout.0 ≡ true
    opening_accepted u h = rw (untouched.first, all) (begun.opened u (known u h))

  -- it has proposed the view: nothing of that is underway but the marks, and these are not all, so that it is concluded
  module _ (proposed : (variables_at s (least_of v).0).proposal ≡ 0 → ⊥) where
    this_view : (variables_at s (least_of v).0).proposal ≡ v
    this_view = (orderly.reached.own p).leads proposed least ∙ common.view p leader

    no_note : (u : ℕ) → has v u ≡ true → Notes (variables_at s (least_of v).0).propout.0 (pending_at (process_at s u) (least_of v).0) → ⊥
    no_note u h e =
        let answer = matched (variables_at s) p (pending_at (process_at s u) p) e (orderly.reached.recorded u p) proposed in
        let same : (variables_at s u).view ≡ (variables_at s p).proposal = common.view u h ∙ sym this_view in
        true_is_not_false (sym answer ∙ sym (ap (λ (w : ℕ). matches w (pending_at (process_at s u) p)) same) ∙ resting.unanswerable u p (known u h) (known p leader) (common.live u h))

    only_marks : (u : ℕ) → has v u ≡ true → Underway s (variables_at s (least_of v).0).propout.0 (least_of v).0 u
        → has (variables_at s (least_of v).0).acks u ≡ true
    only_marks u h (asked e) = absurd (none_of_empty _ (subst (Any _) (resting.empty p u (known p leader) (known u h)) e))
    only_marks u h (noted e) = absurd (no_note u h e)
    only_marks u h (replied e) = absurd (none_of_empty _ (subst (Any _) (resting.empty u p (known u h) (known p leader)) e))
    only_marks u h (marked e) = e

    not_underway : ((u : ℕ) → has (variables_at s (least_of v).0).proposal u ≡ true → gone u ≡ false
        → Underway s (variables_at s (least_of v).0).propout.0 (least_of v).0 u)
        → ⊥
    not_underway under =
        true_is_not_false
        (sym (part_by_processes v (variables_at s p).acks common.byte (λ u h. only_marks u h (under u (rw this_view h) (stays u h))))
        ∙ subst (λ (w : ℕ). subset w (variables_at s p).acks ≡ false) this_view (orderly.pursuit.incomplete p proposed))

    only_written : (u : ℕ) → has v u ≡ true
        → Concluded s (variables_at s (least_of v).0).proposal (variables_at s (least_of v).0).propout.0 (least_of v).0 u
        → entry_in s u (variables_at s (least_of v).0).propout.0 ≡ v
    only_written u h (announced e) = absurd (none_of_empty _ (subst (Any _) (resting.empty p u (known p leader) (known u h)) e))
    only_written u h (written e) = e ∙ this_view

    agreed_written : (u : ℕ) → has v u ≡ true → entry_in s u (variables_at s (least_of v).0).propout.0 ≡ v
    agreed_written u h = grind (arith, not_underway, only_written, this_view, least)

    agreed_accepted : (u : ℕ) → has v u ≡ true → accepted acc u v (variables_at s (least_of v).0).propout.0 ≡ true
    agreed_accepted u h =
        let e = agreed_written u h in
        let later : 2 ≤ o = by_number o 1 (λ one. absurd (proposed (own.none_proposed one))) (λ other. omega (arith, own.propout_low)) in
        let entered = orderly.reached.entries u o later (λ z. not_empty v u h (sym e ∙ z)) in
        subst (λ (w : ℕ). accepted acc u w o ≡ true) e (entered.agreed u entered.own)

  -- so each process has the view at PropOut of the least
  pub written_there : (u : ℕ) → has v u ≡ true → entry_in s u (variables_at s (least_of v).0).propout.0 ≡ v
  written_there u h = by_number (variables_at s p).proposal 0 (λ none. opening_written none u h) (λ proposed. agreed_written proposed u h)

  accepted_there : (u : ℕ) → has v u ≡ true → accepted acc u v (variables_at s (least_of v).0).propout.0 ≡ true
  accepted_there u h = by_number (variables_at s p).proposal 0 (λ none. opening_accepted none u h) (λ proposed. agreed_accepted proposed u h)

  accepted_view : (u w : ℕ) → has v w ≡ true → has v u ≡ true → accepted acc u (variables_at s w).view (variables_at s (least_of v).0).propout.0 ≡ true
  accepted_view u w i h = rw (common.view w i) (accepted_there u h)

  -- and has accepted nothing past it that its least process, where that is named, has accepted too: the least has accepted nothing since, and
  -- the others only views with it
  pub none_accepted : (u : ℕ) → has v u ≡ true → (w j : ℕ) → (variables_at s (least_of v).0).propout.0 < j → has w u ≡ true → accepted acc u w j ≡ true
      → (has w (least_of v).0 ≡ true → accepted acc (least_of v).0 w j ≡ true)
      → ⊥
  none_accepted u h w j past member e both = clash (has w p) refl
    where
      next : (variables_at s p).next.0 ≡ o + 1
      next = orderly.standing.next p (stays p leader) least (accepted_view p p leader leader)

      clash : (t : Bool) → has w p ≡ t → ⊥
      clash true named = omega (arith, past, next, orderly.reached.passed p w j (both named))
      clash false lacked =
          let followed : Followed _ s acc p u =
          record {
            leader_stays = stays p leader;
            stays = stays u h;
            apart = λ i. true_is_not_false (sym member ∙ subst (λ (x : ℕ). has w x ≡ false) (sym i) lacked);
            least = least;
            accepts = accepted_view u p leader h;
          } in
          true_is_not_false (sym ((orderly.standing.loyal p u followed).included (rw (common.view u h) leader) w j past e) ∙ lacked)

  none_past : (u : ℕ) → has v u ≡ true → (j : ℕ) → (variables_at s (least_of v).0).propout.0 < j → entry_in s u j ≡ 0
  none_past u h j past =
      by_number (entry_in s u j) 0 (λ e. e)
      (λ filled.
      let entered = orderly.reached.entries u j (omega (arith, past, own.propout_low)) filled in
      absurd (none_accepted u h (entry_in s u j) j past entered.own (entered.agreed u entered.own) (entered.agreed p)))

  -- nobody has its last proposal recorded
  pub no_record : (u : ℕ) → Known s u → Notes (variables_at s (least_of v).0).propout.0 (pending_at (process_at s u) (least_of v).0) → ⊥
  no_record u k e =
      let q = known p leader in
      let f = noted_facts s.n p u (variables_at s) o (pending_at (process_at s u) p) ((sound.process u k.low k.high).recorded p q.low q.high) e (orderly.reached.recorded u p) in
      by_number (variables_at s p).proposal 0
      (λ none. omega (arith, f.0, (untouched none).first))
      (λ some. no_note some u (rw (this_view some) at (f.1 refl some)) e)

  pub last_there : (u : ℕ) → has v u ≡ true → last_non_empty s u ≡ (variables_at s (least_of v).0).propout.0
  unfolding last_non_empty
  last_there u h =
      last_is s u o 32 own.propout_low own.propout_high (λ z. not_empty v u h (sym (written_there u h) ∙ z)) (none_past u h)

pub resting_final : {gone : ℕ → Bool} {s : System} {acc : List Acceptance} → Orderly gone s acc → Sound s → Begun s acc → (v : ℕ) → at_rest s ≡ true → Common s v
    → ((k : ℕ) → has v k ≡ true → gone k ≡ false)
    → Final s v
resting_final {s = s} orderly sound begun v rest f stays =
    let r = rest_facts s rest in
    let last : (p : ℕ) → has v p ≡ true → last_non_empty s p ≡ (variables_at s (least_of v).0).propout.0 = λ p h. last_there orderly sound begun r f stays (least_named v p h) p h in
    record {
      same = λ p q hp hq. last p hp ∙ sym (last q hq);
      holds = λ p h. ap (entry_in s p) (last p h) ∙ written_there orderly sound begun r f stays (least_named v p h) p h;
      proposed = last;
    }
