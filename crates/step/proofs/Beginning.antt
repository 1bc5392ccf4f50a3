-- A fresh system, part by part; it is valid, and so is every system that steps reach from it.
use Prim.Native.Nat.{ℕ, zero, suc, ◌-◌, ◌≤◌}
use mathlib.Core.Path.{◌≡◌, refl, ◌∙◌, ap, subst}
use mathlib.Core.Bool.{true}
use mathlib.Core.List.{[]}
use mathlib.Core.Logic.{◌⊎◌, inl, inr}
use native.Mathlib.Omega.{arith}
use lib.ListN.{length, replicate}
use Rattle.std.specs.Prelude.{None}
use Rattle.view.specs.Logic.{pick, all_up_to, at, put, is_one_of}
use Rattle.view.specs.View.{has, within, everyone}
use Rattle.view.proofs.Laws.{one_of, at_replicate}
use Rattle.view.proofs.Table.{below}
use Rattle.channel.specs.Channel.{empty_channel, waiting}
use Rattle.channel.proofs.Laws.{empty_long, empty-waiting}
use Rattle.system.specs.declared.Process.{Process}
use Rattle.system.specs.Process.{Pending, entry_at, with_entry, no_entries, pending_at}
use Rattle.system.specs.System.{no_process, process_at, variables_at, entry_in, channel_number, channel_at}
use Rattle.system.specs.Fresh.{fresh_variables, fresh_process, fresh_system}
use Rattle.system.proofs.Histories.{entry_long, entry_same, entry_other, no_entry}
use Rattle.sound.specs.Sound.{every, sound_proposal, sound_message, sound_pending, sound_channel, sound_history, sound_variables, sound_process, sound_channel_at, sound_system, sound_process_at, sound_channels_from, sound_processes, sound_channels}
use Rattle.step.proofs.Frames.{Shape}
use Rattle.step.proofs.Soundness.{Valid}
use Rattle.step.proofs.Cases.{waiting_at}

-- an element of a list of equal ones, or the default
one_or_none : {A : Type 0} (P : A → Type 0) (n k : ℕ) (a d : A) → P a → P d → P (at (replicate n a) k d)
unfolding at
one_or_none P n zero a d h e = e
one_or_none P zero (suc k) a d h e = e
one_or_none P (suc n) (suc zero) a d h e = h
one_or_none P (suc n) (suc (suc k)) a d h e = one_or_none P n (suc k) a d h e

-- the element numbered k of a list of equal ones
at_equal : {A : Type 0} (n k : ℕ) (a d : A) → 1 ≤ k → k ≤ n → at (replicate n a) k d ≡ a
unfolding at
at_equal zero k a d low high = absurd (omega arith)
at_equal (suc n) zero a d low high = absurd (omega arith)
at_equal (suc n) (suc zero) a d low high = refl
at_equal (suc n) (suc (suc k)) a d low high = at_equal n (suc k) a d (omega arith) (omega arith)

module _ (n : ℕ) where
  -- ---- of each process of a fresh system, and of none
  pub each_fresh : (P : Process → Type 0) → P (fresh_process n) → P no_process → (p : ℕ) → P (process_at (fresh_system n) p)
  unfolding process_at fresh_system
  each_fresh P h e p = one_or_none P 8 p (fresh_process n) no_process h e

  pub fresh_process_lem : (p : ℕ) → 1 ≤ p → p ≤ 8 → process_at (fresh_system n) p ≡ fresh_process n
  unfolding process_at fresh_system
  fresh_process_lem p low high = at_equal 8 p (fresh_process n) no_process low high

  pub fresh_variables_lem : (p : ℕ) → 1 ≤ p → p ≤ 8 → variables_at (fresh_system n) p ≡ fresh_variables n
  unfolding fresh_process
  fresh_variables_lem p low high = grind (arith, fresh_process_lem)

  pub nothing_recorded : (p q : ℕ) → pending_at (process_at (fresh_system n) p) q ≡ None
  unfolding pending_at fresh_process no_process
  nothing_recorded p q =
      each_fresh (λ x. at x.pending q None ≡ None) (rw (at_replicate {A = Pending} 8 q None)) (rw (at_replicate {A = Pending} 8 q None)) p

  -- ---- its entries: "every entry at position 1 is the set of all n; other positions are empty"
  pub nothing_entered : (p i : ℕ) → 2 ≤ i → entry_in (fresh_system n) p i ≡ 0
  unfolding entry_in fresh_process no_process
  nothing_entered p i l =
      each_fresh (λ x. entry_at x.history i ≡ 0) (entry_other no_entries 1 (everyone n) i (λ e. absurd (omega arith)) ∙ no_entry i) (no_entry i) p

  pub first_entered : (p : ℕ) → 1 ≤ p → p ≤ 8 → entry_in (fresh_system n) p 1 ≡ everyone n
  unfolding entry_in fresh_process
  first_entered p low high = grind (arith, fresh_process_lem, entry_same)

  -- one and the same for each process, and nothing where there is none
  pub first_or_none : (p : ℕ) → (entry_in (fresh_system n) p 1 ≡ everyone n) ⊎ (entry_in (fresh_system n) p 1 ≡ 0)
  unfolding entry_in fresh_process no_process
  first_or_none =
      each_fresh (λ x. (entry_at x.history 1 ≡ everyone n) ⊎ (entry_at x.history 1 ≡ 0))
      (inl (entry_same no_entries 1 (everyone n) (omega arith) (omega arith)))
      (inr (no_entry 1))

  -- ---- its channels
  pub fresh_channel : (q p : ℕ) → channel_at (fresh_system n) q p ≡ empty_channel
  unfolding channel_at fresh_system
  fresh_channel q p = at_replicate 64 (channel_number q p) empty_channel

  pub nothing_waits : (q p : ℕ) → waiting_at (fresh_system n) q p ≡ []
  nothing_waits q p = ap waiting (fresh_channel q p) ∙ empty-waiting

  -- ---- it is valid
  pub fresh_shape : Shape (fresh_system n)
  unfolding fresh_system fresh_process no_process
  fresh_shape =
      record {
        processes = refl;
        channels = refl;
        slots = λ q p. rw (fresh_channel q p) empty_long;
        pending = each_fresh (λ x. length x.pending ≡ 8) refl refl;
        entries = each_fresh (λ x. length x.history.entries ≡ 32) (entry_long no_entries 1 (everyone n)) refl;
        trust = refl;
      }

-- the fresh systems of 1 to 8, computed
fresh_sound : (n : ℕ) → is_one_of 8 n ≡ true → sound_system (fresh_system n) ≡ true
unfolding pick all_up_to at put has within everyone empty_channel waiting entry_at with_entry pending_at no_process process_at channel_number channel_at fresh_variables fresh_process fresh_system every sound_proposal sound_message sound_pending sound_channel sound_history sound_variables sound_process sound_process_at sound_channel_at sound_channels_from sound_processes sound_channels sound_system
fresh_sound n e =
    let b = one_of 8 n e in
    let back : suc (n - 1) ≡ n = omega arith in
    subst (λ (k : ℕ). sound_system (fresh_system k) ≡ true) back (below 8 (λ k. sound_system (fresh_system (suc k))) refl (n - 1) (omega arith))

pub fresh_valid : (n : ℕ) → is_one_of 8 n ≡ true → Valid (fresh_system n)
fresh_valid n e = record { shape = fresh_shape n; sound = fresh_sound n e }
