-- Sound and unsound systems, each with what the definition must say of it: the fresh ones, and a system of two processes with one
-- thing altered. Above each stands the sentence of document 01 that it obeys or breaks.
-- The bytes of the views: 1 is {1}, 2 is {2}, 3 is {1, 2}, 4 is {3}, 5 is {1, 3}, 7 is {1, 2, 3}.
use Prim.Native.Nat.{ℕ}
use mathlib.Core.Path.{◌≡◌, refl}
use mathlib.Core.Bool.{Bool, true, false, ◌&&◌, not}
use mathlib.Core.List.{List, [], ◌∷◌}
use lib.ListN.{replicate}
use Rattle.view.specs.Logic.{pick, all_up_to, at, put}
use Rattle.view.specs.View.{has, within, everyone}
use Rattle.channel.specs.declared.Message.{Message}
use Rattle.channel.specs.declared.Message.TheVariants.{Propose, Retry, Acc, Commit}
use Rattle.channel.specs.declared.Channel.{Channel}
use Rattle.channel.specs.Channel.{empty_channel, waiting}
use Rattle.std.specs.Prelude.{Some}
use Rattle.system.specs.declared.Process.{Process}
use Rattle.system.specs.declared.System.{System}
use Rattle.system.specs.Process.{index, proposal_at, entry_at, with_entry, pending_at, with_pending, with_variables, with_history}
use Rattle.system.specs.System.{no_process, process_at, with_process, channel_number, channel_at, with_channel}
use Rattle.system.specs.Fresh.{fresh_variables, fresh_process, fresh_system}
use Rattle.sound.specs.Sound.{every, sound_proposal, sound_message, sound_pending, sound_channel, sound_history, sound_variables, sound_process, sound_process_at, sound_channel_at, sound_channels_from, sound_processes, sound_channels, sound_system}

-- ---- one thing altered
abbrev pub two : System
two = fresh_system 2

abbrev pub sized : ℕ → System
sized n = record { n = n; processes = two.processes; channels = two.channels; trust = two.trust }

-- process p of the two, altered
abbrev pub altered : ℕ → (Process → Process) → System
altered p f = with_process two p (f (process_at two p))

-- a process of the two with these variables, its records and its history kept
abbrev pub having : Bool → ℕ → ℕ → ℕ → ℕ → ℕ → Process → Process
having crashed view next propout proposal acks x =
    with_variables x
    (record { crashed = crashed; view = view; next = index next; propout = index propout; proposal = proposal; acks = acks })

-- each with one field that is not the fresh one
abbrev pub of_view : ℕ → Process → Process
of_view v = having false v 2 1 0 0

abbrev pub of_next : ℕ → Process → Process
of_next i = having false 3 i 1 0 0

-- PropOut and the last proposed view
abbrev pub proposing : ℕ → ℕ → Process → Process
proposing i v = having false 3 2 i v 0

abbrev pub of_acks : ℕ → Process → Process
of_acks v = having false 3 2 1 0 v

abbrev pub crashed : Process → Process
crashed = having true 3 2 1 0 0

-- the entry v at index i
abbrev pub holding : ℕ → ℕ → Process → Process
holding i v x = with_history x (with_entry x.history i v)

-- process 2 has recorded a proposal from process 1
abbrev pub recorded : ℕ → ℕ → System
recorded v i = altered 2 (λ x. with_pending x 1 (Some (proposal_at v (index i))))

-- a channel whose eight slots hold the same message, of which k wait
abbrev pub filled : Message → ℕ → Channel
filled m k = record { slots = replicate 8 m; len = k }

-- k of them from process 1 to process 2
abbrev pub sending : ℕ → Message → System
sending k m = with_channel two 1 2 (filled m k)

-- ---- the list
pub data Example : Type 0 where
  sound unsound : System → Example

abbrev pub right : Example → Bool
right (sound s) = sound_system s
right (unsound s) = not (sound_system s)

abbrev pub all_right : List Example → Bool
all_right [] = true
all_right (e ∷ es) = right e && all_right es

abbrev pub examples : List Example
examples =
    -- "n from 1 to 8"
    unsound (fresh_system 0)
    ∷ sound (fresh_system 1)
    ∷ sound (fresh_system 2)
    ∷ sound (fresh_system 3)
    ∷ sound (fresh_system 4)
    ∷ sound (fresh_system 5)
    ∷ sound (fresh_system 6)
    ∷ sound (fresh_system 7)
    ∷ sound (fresh_system 8)
    ∷ unsound (sized 9)
    -- "Next (2 to 33)"
    ∷ unsound (altered 1 (of_next 1))
    ∷ sound (altered 1 (of_next 33))
    ∷ unsound (altered 2 (of_next 34))
    -- "PropOut (1 to 32)"
    ∷ unsound (altered 1 (proposing 0 3))
    ∷ sound (altered 1 (proposing 32 3))
    ∷ unsound (altered 2 (proposing 33 3))
    -- "It holds 0 to 8 messages"
    ∷ sound (sending 8 (Acc (index 2)))
    ∷ unsound (sending 9 (Acc (index 2)))
    -- "every view names only units 1 to n": the local view, an entry, the last proposed view, the set of those that acknowledged
    ∷ unsound (altered 1 (of_view 7))
    ∷ sound (altered 1 (holding 32 2))
    ∷ unsound (altered 1 (holding 32 4))
    ∷ unsound (altered 1 (proposing 2 5))
    ∷ sound (altered 1 (of_acks 3))
    ∷ unsound (altered 1 (of_acks 4))
    -- "position 1 holds a non-empty view at each unit"
    ∷ unsound (altered 2 (holding 1 0))
    -- "each local view contains its own unit"
    ∷ sound (altered 2 (of_view 2))
    ∷ unsound (altered 2 (of_view 1))
    -- "the last proposed view is empty if PropOut is 1 and otherwise contains its own unit"
    ∷ unsound (altered 2 (proposing 1 2))
    ∷ sound (altered 2 (proposing 2 2))
    ∷ unsound (altered 2 (proposing 2 1))
    ∷ unsound (altered 2 (proposing 2 0))
    -- "every line towards a stopped unit is empty"
    ∷ sound (altered 2 crashed)
    ∷ unsound (with_channel (altered 2 crashed) 2 2 (filled (Acc (index 2)) 1))
    ∷ unsound (with_channel (altered 2 crashed) 1 2 (filled (Acc (index 2)) 1))
    ∷ sound (with_channel (altered 2 crashed) 2 1 (filled (Acc (index 2)) 1))
    -- "Propose .. carry a position from 2 to 32 and a view with both sender and receiver in it": index, sender, receiver, beyond n
    ∷ sound (sending 1 (Propose 3 (index 2)))
    ∷ sound (sending 1 (Propose 3 (index 32)))
    ∷ unsound (sending 1 (Propose 3 (index 1)))
    ∷ unsound (sending 1 (Propose 3 (index 33)))
    ∷ unsound (sending 1 (Propose 2 (index 2)))
    ∷ unsound (sending 1 (Propose 1 (index 2)))
    ∷ unsound (sending 1 (Propose 7 (index 2)))
    -- "Commit", the same
    ∷ sound (sending 1 (Commit 3 (index 2)))
    ∷ sound (sending 1 (Commit 3 (index 32)))
    ∷ unsound (sending 1 (Commit 3 (index 1)))
    ∷ unsound (sending 1 (Commit 3 (index 33)))
    ∷ unsound (sending 1 (Commit 2 (index 2)))
    ∷ unsound (sending 1 (Commit 1 (index 2)))
    ∷ unsound (sending 1 (Commit 7 (index 2)))
    -- "and so does a recorded proposal"
    ∷ sound (recorded 3 2)
    ∷ sound (recorded 3 32)
    ∷ unsound (recorded 3 1)
    ∷ unsound (recorded 3 33)
    ∷ unsound (recorded 2 2)
    ∷ unsound (recorded 1 2)
    ∷ unsound (recorded 7 2)
    -- "Acc carries a position from 2 to 32"
    ∷ sound (sending 1 (Acc (index 32)))
    ∷ unsound (sending 1 (Acc (index 1)))
    ∷ unsound (sending 1 (Acc (index 33)))
    -- "Retry carries old from 2 to 32 and new from old + 1 to 33"
    ∷ sound (sending 1 (Retry (index 2) (index 3)))
    ∷ sound (sending 1 (Retry (index 32) (index 33)))
    ∷ unsound (sending 1 (Retry (index 1) (index 2)))
    ∷ unsound (sending 1 (Retry (index 33) (index 33)))
    ∷ unsound (sending 1 (Retry (index 2) (index 2)))
    ∷ unsound (sending 1 (Retry (index 2) (index 34)))
    -- what lies past n is no part of the table: a process, a record from it, a channel to it and one from it
    ∷ sound (altered 3 (of_next 0))
    ∷ sound (altered 1 (λ x. with_pending x 3 (Some (proposal_at 255 (index 0)))))
    ∷ sound (with_channel two 1 3 (filled (Acc (index 0)) 9))
    ∷ sound (with_channel two 3 1 (filled (Acc (index 0)) 9))
    -- what lies past a channel's length is not either
    ∷ sound (sending 0 (Acc (index 0)))
    ∷ []

-- the definition says of each what the list says
pub examples_right : all_right examples ≡ true
unfolding sound_system sound_processes sound_channels sound_channels_from sound_process_at sound_channel_at sound_process sound_variables sound_history sound_channel sound_pending sound_message sound_proposal every
    within has everyone pick all_up_to at put
    fresh_system fresh_process fresh_variables process_at with_process channel_number channel_at with_channel no_process
    entry_at with_entry pending_at with_pending with_variables with_history empty_channel waiting
examples_right = refl
