-- The processes of a view, one after the other, and what is asked of one of them or done for it.
use Rattle.std.specs.Prelude.{ℕ, Bool, true, ◌||◌, List, [], ◌∷◌, filter}
use Rattle.view.specs.View.{has}
use Rattle.channel.specs.Channel.{has_room}
use Rattle.system.specs.declared.System.{System}
use Rattle.system.specs.System.{variables_at, channel_at, with_trust, trusting}
use Rattle.step.specs.Step.{departed}

-- the processes that a view names, in rising order
unfoldable pub members_of : ℕ → List ℕ
members_of v = filter (has v) (1 ∷ 2 ∷ 3 ∷ 4 ∷ 5 ∷ 6 ∷ 7 ∷ 8 ∷ [])

-- process p takes a message from q: it has crashed, or the channel has room
unfoldable pub takes : System → ℕ → ℕ → Bool
takes s q p = (variables_at s p).crashed || has_room (channel_at s q p)

-- process p, whose view is still the old one, comes to suspect process q, or goes on to
unfoldable pub suspecting : System → ℕ → ℕ → System
suspecting s p q = with_trust s (trusting (departed s p q s.trust) q p true)
