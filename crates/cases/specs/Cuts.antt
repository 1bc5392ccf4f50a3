-- Cut steps, each as a sheet's line, with the whole system after it. In a line a view is its digits; in a system it is its byte: 3 is
-- {1,2}, 31 is {1,2,3,4,5}. What comes of each step is read off S-2's words, not off the program.
use Rattle.std.specs.Prelude.{ℕ, List, [], ◌∷◌, replicate}
use Rattle.channel.specs.declared.Message.TheVariants.{Propose, Retry, Acc, Commit}
use Rattle.system.specs.declared.System.{System}
use Rattle.system.specs.Outcome.{Outcome, done}
use Rattle.system.specs.Process.{index}
use Rattle.system.specs.Fresh.{fresh_system}
use Rattle.plan.specs.declared.Action.TheVariants.{Crash}
use Rattle.plan.specs.Cut.{cut_after}
use Rattle.step.specs.Step.{stepped}
use Rattle.agreement.specs.Accepted.{Acceptance, accepted_in}
use Rattle.cases.specs.Systems.{two, with_values, with_stop, with_record, with_messages}
use Rattle.cases.specs.Worked.{steps_of}
use Rattle.cases.specs.Points.{Point, point, refuses}
use Rattle.cases.specs.Rule.{acceptance}

abbrev five : System
five = fresh_system 5

-- process 1 has proposed {1,2,3,4,5} at 2 and has stopped
unfoldable pub proposed_by1 : System → System
proposed_by1 s = with_stop (with_values s 1 31 2 2 31 0) 1

-- and process p has been told
unfoldable pub told : ℕ → System → System
told p s = with_messages s 1 p (Propose 31 (index 2) ∷ [])

-- process 1 has proposed {1,2} at 2, with these marks
unfoldable pub proposed_both : ℕ → System
proposed_both acks = with_values two 1 3 2 2 3 acks

-- the Acc of process 2, which is the last, waits for it
unfoldable pub last_acc : System
last_acc = with_messages (proposed_both 1) 2 1 (Acc (index 2) ∷ [])

-- a Retry from process 2 waits for it, and its channel to itself is full
unfoldable pub full_retry : System
full_retry = with_messages (with_messages (proposed_both 0) 2 1 (Retry (index 2) (index 4) ∷ [])) 1 1 (replicate 8 (Acc (index 2)))

-- process 1 has proposed at index 32
unfoldable pub last_index : System
last_index = with_values two 1 3 2 32 3 0

-- process 2 has recorded {1,2} at 2 from process 1
unfoldable pub answering : System
answering = with_record two 2 1 3 2

abbrev pub cuts : List Point
cuts =
    -- "after the third message of five": 1, 2 and 3 are told, and the stop empties the channel to 1 itself
    point five "r 1 12345 cut 3" (done (told 3 (told 2 (proposed_by1 five))))
    -- "A message to a stopped unit counts among those it would send.": 2 is one of the three
    ∷ point (with_stop five 2) "r 1 12345 cut 3" (done (told 3 (proposed_by1 (with_stop five 2))))
    -- also in the number that is not reached: five, of whom one has stopped
    ∷ point (with_stop five 2) "r 1 12345 cut 4" (done (told 4 (told 3 (proposed_by1 (with_stop five 2)))))
    -- "k at least 0 and below the number it would send"
    ∷ point five "r 1 12345 cut 0" (done (proposed_by1 five))
    ∷ point five "r 1 12345 cut 4" (done (told 4 (told 3 (told 2 (proposed_by1 five)))))
    ∷ refuses five "r 1 12345 cut 5" 12
    ∷ refuses five "r 1 12345 cut 9" 12
    -- an Acc that would commit: the marks are cleared, and nothing is sent; nothing stays on the channel to 1 itself
    ∷ point last_acc "t 2 1 cut 0" (done (with_stop (proposed_both 0) 1))
    ∷ point last_acc "t 2 1 cut 1" (done (with_stop (proposed_both 0) 1))
    ∷ point last_acc "t 2 1"
    (done (with_messages (with_messages (proposed_both 0) 1 1 (Commit 3 (index 2) ∷ [])) 1 2 (Commit 3 (index 2) ∷ [])))
    -- an answer: Next is raised and the record is gone
    ∷ point answering "a 2 1 cut 0" (done (with_stop (with_values two 2 3 3 1 0 0) 2))
    ∷ refuses answering "a 2 1 cut 1" 12
    -- "Room is tested for those k only."
    ∷ refuses full_retry "t 2 1" 7
    ∷ point full_retry "t 2 1 cut 0" (done (with_stop (with_values two 1 3 2 4 3 0) 1))
    ∷ refuses full_retry "t 2 1 cut 1" 7
    -- "after 6 and before 7"
    ∷ refuses full_retry "t 2 1 cut 2" 12
    ∷ refuses last_index "r 1 12 cut 2" 6
    ∷ refuses last_index "r 1 12 cut 0" 6
    -- after 5, 10, 11, 4, 3 and 2
    ∷ refuses two "t 2 1 cut 0" 5
    ∷ refuses two "a 1 2 cut 9" 10
    ∷ refuses (with_record (with_values two 2 2 2 1 0 0) 2 1 3 2) "a 2 1 cut 9" 11
    ∷ refuses two "r 1 - cut 9" 4
    ∷ refuses (with_stop two 1) "r 1 12 cut 9" 3
    ∷ refuses two "r 3 12 cut 9" 2
    -- a step that sends nothing is never cut, and changes nothing: the local view neither
    ∷ refuses two "r 2 12 cut 0" 12
    ∷ refuses (with_messages two 1 2 (Propose 3 (index 2) ∷ [])) "t 1 2 cut 0" 12
    ∷ refuses (with_messages two 1 2 (Commit 3 (index 2) ∷ [])) "t 1 2 cut 0" 12
    ∷ refuses (with_messages (proposed_both 0) 2 1 (Acc (index 2) ∷ [])) "t 2 1 cut 0" 12
    -- who was cut has stopped
    ∷ refuses (told 3 (told 2 (proposed_by1 five))) "r 1 1" 3
    ∷ []

-- a stop sends nothing either; no sheet line asks for it to be cut
unfoldable pub cut_stop : Outcome
cut_stop = stepped two (cut_after (Crash (record { 0 = 1 })) 0)

-- a cut answer accepts
unfoldable pub accepted_by_cut : List Acceptance
accepted_by_cut = accepted_in answering (steps_of ("a 2 1 cut 0" ∷ []))

unfoldable pub accepted_is_cut : List Acceptance
accepted_is_cut = acceptance 2 3 2 ∷ []
