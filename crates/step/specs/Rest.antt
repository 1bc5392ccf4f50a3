-- S-4: "At rest means no waiting message and no answer that could be given".
use Rattle.std.specs.Prelude.{ℕ, Bool, false, ◌&&◌, not, eqb, None, Some}
use Rattle.view.specs.Logic.{all_up_to}
use Rattle.system.specs.declared.System.{System}
use Rattle.system.specs.Process.{pending_at, Pending}
use Rattle.system.specs.System.{process_at, variables_at, channel_at}

-- no message waits from process q to process p
unfoldable pub idle_from : System → ℕ → ℕ → Bool
idle_from s p q = eqb (channel_at s q p).len 0

-- a recorded proposal of this view
unfoldable pub matches : ℕ → Pending → Bool
matches v None = false
matches v (Some r) = eqb r.view v

-- process p could answer process q: it has not stopped, and the record from q is of its local view. Room is not asked: where an answer
-- finds none, a message waits
unfoldable pub answerable : System → ℕ → ℕ → Bool
answerable s p q = not (variables_at s p).crashed && matches (variables_at s p).view (pending_at (process_at s p) q)

unfoldable pub resting_from : System → ℕ → ℕ → Bool
resting_from s p q = idle_from s p q && not (answerable s p q)

unfoldable pub resting_at : System → ℕ → Bool
resting_at s p = all_up_to s.n (resting_from s p)

unfoldable pub at_rest : System → Bool
at_rest s = all_up_to s.n (resting_at s)
