-- Settling runs, each with its budget, and what is to come of it: read off document 02's S-4, not off the program.
use Rattle.std.specs.Prelude.{ℕ, List, [], ◌∷◌, replicate}
use Rattle.channel.specs.declared.Message.TheVariants.{Propose, Retry, Acc, Commit}
use Rattle.system.specs.declared.System.{System}
use Rattle.system.specs.Process.{index}
use Rattle.settling.specs.declared.Ending.{Ending}
use Rattle.settling.specs.declared.Ending.TheVariants.{Rest, Held, Budget}
use Rattle.settling.specs.Settle.{Settled, settled}
use Rattle.cases.specs.Systems.{two, with_values, with_stop, with_record, with_written, with_messages}

pub record SettlingPoint : Type 0 where
  pub before : System
  pub budget : ℕ
  pub after : Settled

-- so many steps, and this ending
abbrev comes : System → ℕ → ℕ → Ending → System → SettlingPoint
comes s budget steps ending t = record { before = s; budget = budget; after = record { refusal = 0; steps = steps; ending = ending; system = t } }

-- nothing is done
abbrev stays : System → ℕ → Ending → SettlingPoint
stays s budget ending = comes s budget 0 ending s

-- by the definitions, and by the point
unfoldable pub point_settled : SettlingPoint → Settled
point_settled x = settled x.budget x.before

abbrev pub expected_settled : SettlingPoint → Settled
expected_settled x = x.after

-- process 1 has proposed {1,2} at 2
unfoldable pub proposed_to_two : System
proposed_to_two = with_messages (with_messages (with_values two 1 3 2 2 3 0) 1 1 (Propose 3 (index 2) ∷ [])) 1 2 (Propose 3 (index 2) ∷ [])

-- both have accepted, and process 2 has written it
unfoldable pub written_at_two : System
written_at_two = with_written (with_values (with_values two 1 3 3 2 3 0) 2 3 3 1 0 0) 2 2 3

unfoldable pub written_at_both : System
written_at_both = with_written written_at_two 1 2 3

-- process 1 has recorded its own proposal of {1,2} at 2, which is its local view
unfoldable pub recorded_by_one : System
recorded_by_one = with_record (with_values two 1 3 2 2 3 0) 1 1 3 2

-- each waits for room on the channel to the other: both would complete with the first Acc
unfoldable pub crosswise : System
crosswise =
    with_messages (with_messages (with_values (with_values two 1 3 2 2 3 1) 2 3 2 2 3 2) 1 2 (replicate 8 (Acc (index 2)))) 2 1
    (replicate 8 (Acc (index 2)))

abbrev pub settlings : List SettlingPoint
settlings =
    -- two takes, two answers; process 1 takes both, and process 2 the Commit put on its channel in the same round; then process 1 its own
    comes proposed_to_two 100 8 Rest written_at_both
    -- "with budget if a further take or answer would then be done": none would, and one would. At the seventh step the Commit is taken at
    -- process 2: "by rising receiver then sender" comes to process 2 in the round in which process 1 has sent it
    ∷ comes proposed_to_two 8 8 Rest written_at_both
    ∷ comes proposed_to_two 7 7 Budget (with_messages written_at_two 1 1 (Commit 3 (index 2) ∷ []))
    ∷ stays proposed_to_two 0 Budget
    ∷ stays written_at_both 0 Rest
    -- an answer that could be given is a further step too
    ∷ stays recorded_by_one 0 Budget
    -- but not one of a process that has stopped, nor one to a proposal of another view
    ∷ stays (with_stop recorded_by_one 1) 100 Rest
    ∷ stays (with_record (with_values two 2 2 2 1 0 0) 2 1 3 2) 100 Rest
    -- held up by 7 alone, and by a Retry to 33
    ∷ stays crosswise 100 Held
    ∷ stays (with_messages (with_values two 1 3 2 2 3 0) 2 1 (Retry (index 2) (index 33) ∷ [])) 100 Held
    -- "An unsound table gives 1 and 0 steps": Next is 1. The third answer is ours
    ∷ record {
      before = with_values two 1 3 1 1 0 0;
      budget = 100;
      after = record { refusal = 1; steps = 0; ending = Held; system = with_values two 1 3 1 1 0 0 };
    }
    ∷ []
