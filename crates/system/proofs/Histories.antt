-- Laws of histories: what stands at each index once an entry is put at one of them, and where nothing stands.
use Prim.Native.Nat.{ℕ, zero, suc, ◌≤◌, ◌<◌}
use mathlib.Core.Path.{◌≡◌, refl}
use Rattle.view.specs.Logic.{at}
use native.Mathlib.Nat.{lt_of_not-le}
use native.Mathlib.Omega.{arith}
use lib.ListN.{length}
use Rattle.view.proofs.Laws.{at_put_same, at_put_other, at_past, at_replicate, each_put, length-put}
use Rattle.system.specs.declared.History.{History}
use Rattle.system.specs.declared.System.{System}
use Rattle.system.specs.Process.{entry_at, with_entry, no_entries}
use Rattle.system.specs.System.{no_process, process_at, entry_in}

-- ---- an entry is put at index i
module _ (h : History) (i v : ℕ) where
  pub entry_long : length (with_entry h i v).entries ≡ length h.entries
  unfolding with_entry
  entry_long = length-put h.entries i v

  pub entry_same : 1 ≤ i → i ≤ length h.entries → entry_at (with_entry h i v) i ≡ v
  unfolding entry_at with_entry
  entry_same low high = at_put_same h.entries i v 0 low high

  pub entry_other : (j : ℕ) → (j ≡ i → ⊥) → entry_at (with_entry h i v) j ≡ entry_at h j
  unfolding entry_at with_entry
  entry_other j n = at_put_other h.entries i j v 0 n

  -- of each entry: of the one put, and of the others as before
  pub each_entry : (P : ℕ → ℕ → Type 0) → (1 ≤ i → P i v) → ((j : ℕ) → P j (entry_at h j)) → (j : ℕ) → P j (entry_at (with_entry h i v) j)
  unfolding entry_at with_entry
  each_entry P new old = each_put P h.entries i v 0 (λ l u. new l) old

-- ---- where nothing stands: "the empty view there is the empty position"
pub no_entry : (i : ℕ) → entry_at no_entries i ≡ 0
unfolding entry_at
no_entry i = at_replicate 32 i 0

pub entry_zero : (s : System) (p : ℕ) → entry_in s p 0 ≡ 0
unfolding entry_in entry_at at
entry_zero s p = refl

pub entry_past : (s : System) (p i : ℕ) → length (process_at s p).history.entries < i → entry_in s p i ≡ 0
unfolding entry_in entry_at
entry_past s p i l = at_past (process_at s p).history.entries i 0 l

-- there is no process of that number
pub nobody_entry : (s : System) (p : ℕ) → (1 ≤ p → p ≤ length s.processes → ⊥) → (i : ℕ) → entry_in s p i ≡ 0
unfolding entry_in process_at at no_process
nobody_entry s zero n i = no_entry i
nobody_entry s (suc p) n i = rw (at_past s.processes (suc p) no_process (lt_of_not-le (n (omega arith)))) (no_entry i)
