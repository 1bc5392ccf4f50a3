-- For every list of moves from a fresh system: a proposal is committed once.
use Prim.Native.Nat.{ℕ, ◌≤◌, ◌<◌}
use mathlib.Core.Path.{refl, subst}
use mathlib.Core.List.{List, [], ◌∷◌}
use native.Mathlib.Omega.{arith}
use Rattle.view.specs.Logic.{is_one_of}
use Rattle.view.proofs.Laws.{by_pick}
use Rattle.system.specs.declared.System.{System}
use Rattle.system.specs.Outcome.{Outcome}
use Rattle.system.specs.Fresh.{fresh_variables, fresh_process, fresh_system, fresh_of}
use Rattle.step.proofs.Frames.{Shape}
use Rattle.step.proofs.Cases.{Known}
use Rattle.step.proofs.Weights.{unmarked, is_self, count}
use Rattle.step.proofs.Beginning.{fresh_process_lem, nothing_waits}
use Rattle.events.specs.Event.{Move, moved, Leads}
use Rattle.events.proofs.Runs.{done_sound, kept_by_moves, shape_kept, start_shape}
use Rattle.traffic.specs.Traffic.{proposal_of, CommitsIn, OnceCommitted}
use Rattle.traffic.proofs.Own.{is_below_lem, acc_at, own_accs, Spent, spent_as, commits_spent, transition_spent}
use Rattle.traffic.proofs.Commits.{Committing, committing}

-- ---- what is spent stays so
moves_spent : (s t : System) (ms : List Move) → Shape s → Leads s ms t → (q k : ℕ) → Spent s q k → Spent t q k
moves_spent s t ms shape l q k = kept_by_moves (λ (x : System). Spent x q k) (λ u v o a b r. transition_spent o.action r.change q k) s t ms shape l

-- Commits are sent: not yet at this PropOut, and now it is spent
pub committed_spent : {s t : System} {q : ℕ} → Committing s t q → (k : ℕ) → Spent s q k → (k < proposal_of s q) × Spent t q (proposal_of s q)
committed_spent {s} {t} {q} c k z =
    subst (λ (j : ℕ). Spent s j k → (k < proposal_of s j) × Spent t j (proposal_of s j)) c.same (commits_spent c.case k) z

-- ---- at the start
pub fresh_spent : (n q : ℕ) → 1 ≤ q → q ≤ 8 → Spent (fresh_system n) q 1
unfolding fresh_process fresh_variables own_accs count
fresh_spent n q low high = grind (arith, own_accs, count, acc_at, nothing_waits, spent_as, fresh_process_lem, unmarked, is_self, is_below_lem)

start_spent : (n q : ℕ) → 1 ≤ q → q ≤ 8 → Spent (fresh_of n).system q 1
unfolding fresh_of
start_spent n q low high =
    by_pick (λ (a : Outcome). Spent a.system q 1) (is_one_of 8 n) _ _ (λ e. fresh_spent n q low high) (λ e. fresh_spent 0 q low high)

-- ---- one proposal is committed once
now_committing : (s : System) → Shape s → (m : Move) (q : ℕ) → CommitsIn s m q → Committing s (moved s m).system q
now_committing s shape m q c =
    subst (Committing s (moved s m).system) c.acting (committing s (record { shape = shape; sound = done_sound s m c.done }) m c.done c.counted)

pub once_committed : (n : ℕ) (before : List Move) (first : Move) (more : List Move) (second : Move) (q : ℕ) → OnceCommitted n before first more second q
once_committed n before first more second q s t l m a b =
    let origin = start_shape n in
    let here = shape_kept (fresh_of n).system s before l origin in
    let there = shape_kept s (moved s first).system (first ∷ []) (a.done, refl) here in
    let one_way = now_committing s here first q a in
    let k : Known s q = subst (Known s) one_way.same one_way.case.acts.known in
    let spent = (committed_spent one_way 1 (moves_spent (fresh_of n).system s before origin l q 1 (start_spent n q k.low k.eight))).1 in
    (committed_spent (now_committing t (shape_kept (moved s first).system t more m there) second q b) (proposal_of s q)
    (moves_spent (moved s first).system t more there m q (proposal_of s q) spent)).0
