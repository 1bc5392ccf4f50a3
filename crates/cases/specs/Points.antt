-- Single steps at the points where the rules are easy to misread, each as a sheet's line, with the whole system after it. In a line
-- a view is its digits; in a system it is its byte: 1 is {1}, 2 is {2}, 3 is {1,2}. What comes of each step is read off document
-- 01, not off the program.
use Rattle.std.specs.Prelude.{ℕ, List, [], ◌∷◌, replicate, Result, Ok, Err}
use Prim.Native.String.{String}
use Rattle.channel.specs.declared.Message.TheVariants.{Propose, Retry, Acc, Commit}
use Rattle.system.specs.declared.System.{System}
use Rattle.system.specs.Outcome.{Outcome, done, refused}
use Rattle.system.specs.Process.{index}
use Rattle.print.specs.Text.{bytes}
use Rattle.step.specs.Step.{stepped}
use Rattle.settling.specs.Settle.{settled, settling_budget}
use Rattle.sheet.specs.declared.parse.BadFrom.{BadFrom}
use Rattle.sheet.specs.declared.parse.Line.{Line}
use Rattle.sheet.specs.declared.parse.Line.TheVariants.{Step, Settle}
use Rattle.sheet.specs.Parse.{parsed}
use Rattle.cases.specs.Systems.{one, two, with_values, with_trust_of, with_stop, with_record, with_written, with_messages, lone}

pub record Point : Type 0 where
  pub before : System
  pub line : String
  pub after : Outcome

abbrev pub point : System → String → Outcome → Point
point s l o = record { before = s; line = l; after = o }

-- it is refused with this number
abbrev pub refuses : System → String → ℕ → Point
refuses s l k = point s l (refused k s)

-- what a line does: its step, a settling run, or nothing
unfoldable pub line_outcome : System → Result Line BadFrom → Outcome
line_outcome s (Err bad) = refused 8 s
line_outcome s (Ok (Step o)) = stepped s o
line_outcome s (Ok Settle) = record { refusal = (settled settling_budget s).refusal; system = (settled settling_budget s).system }

-- by the definitions
unfoldable pub point_outcome : Point → Outcome
point_outcome x = line_outcome x.before (parsed (bytes x.line))

-- by the point
abbrev pub expected_outcome : Point → Outcome
expected_outcome x = x.after

abbrev pub points : List Point
points =
    -- "Acc(i): if i is PropOut, q is marked": an Acc of another proposal is not
    point (lone 3 1 0 (Acc (index 2) ∷ [])) "t 1 1" (done (lone 3 1 0 []))
    -- "Then, stale or not, if .. all its units are marked, Commit .. and the marks are cleared."
    ∷ point (lone 3 1 1 (Acc (index 2) ∷ [])) "t 1 1" (done (lone 3 1 0 (Commit 1 (index 3) ∷ [])))
    -- "while the last proposed view is empty, an Acc sends nothing and clears no marks"
    ∷ point (lone 1 0 1 (Acc (index 2) ∷ [])) "t 1 1" (done (lone 1 0 1 []))
    -- Commit carries the last proposed view, not the local one
    ∷ point (with_messages (with_values two 1 1 2 2 3 1) 2 1 (Acc (index 2) ∷ [])) "t 2 1"
    (done (with_messages (with_messages (with_values two 1 1 2 2 3 0) 1 1 (Commit 3 (index 2) ∷ [])) 1 2 (Commit 3 (index 2) ∷ [])))
    -- a Retry acted on proposes the local view: "The last proposed view is not touched"
    ∷ point (with_messages (with_values two 1 1 2 2 3 2) 2 1 (Retry (index 2) (index 4) ∷ [])) "t 2 1"
    (done (with_messages (with_values two 1 1 2 4 3 0) 1 1 (Propose 1 (index 4) ∷ [])))
    -- a Retry at a process that is not the least of its local view: "Otherwise ignored"
    ∷ point (with_messages (with_values two 2 3 2 2 2 0) 1 2 (Retry (index 2) (index 4) ∷ [])) "t 1 2" (done (with_values two 2 3 2 2 2 0))
    -- "Commit(view, i): position i at p becomes that view", whatever stood there
    ∷ point (with_messages (with_written two 1 2 1) 2 1 (Commit 3 (index 2) ∷ [])) "t 2 1" (done (with_written two 1 2 3))
    -- a report by a process that is not the least: "Otherwise nothing else changes", the acknowledgements neither
    ∷ point (with_trust_of (with_values two 2 2 2 2 2 2) 2 1) "r 2 12" (done (with_trust_of (with_values two 2 3 2 2 2 2) 2 1))
    -- "A view equal to the present one is treated the same way."
    ∷ point two "r 1 12"
    (done (with_messages (with_messages (with_values two 1 3 2 2 3 0) 1 1 (Propose 3 (index 2) ∷ [])) 1 2 (Propose 3 (index 2) ∷ [])))
    -- an index past Next is accepted, and Next passes it
    ∷ point (with_record one 1 1 1 5) "a 1 1" (done (with_messages (with_values one 1 1 6 1 0 0) 1 1 (Acc (index 5) ∷ [])))
    -- an index below Next is not
    ∷ point (with_record (with_values one 1 1 6 1 0 0) 1 1 1 5) "a 1 1"
    (done (with_messages (with_values one 1 1 6 1 0 0) 1 1 (Retry (index 5) (index 6) ∷ [])))
    -- "10 no record, 11 other view": no recorded proposal; one whose view is not the local view, which waits
    ∷ refuses two "a 1 2" 10
    ∷ refuses (with_record (with_values two 2 2 2 1 0 0) 2 1 3 2) "a 2 1" 11
    -- "both in the place of 5 in the order": after 3, and before 7
    ∷ refuses (with_stop two 1) "a 1 2" 3
    ∷ refuses (with_messages two 1 2 (replicate 8 (Acc (index 2)))) "a 1 2" 10
    ∷ refuses (with_messages (with_record (with_values two 2 2 2 1 0 0) 2 1 3 2) 2 1 (replicate 8 (Acc (index 2)))) "a 2 1" 11
    -- an empty channel
    ∷ refuses two "t 1 2" 5
    -- a view that names a process beyond n, or lacks its own
    ∷ refuses two "r 1 13" 4
    ∷ refuses two "r 1 2" 4
    -- 2 goes before 3: the one that would act has stopped, and the other is no process
    ∷ refuses (with_stop two 1) "t 9 1" 2
    ∷ refuses (with_stop two 1) "s 1" 3
    -- one full channel among those that the step needs
    ∷ refuses (with_messages two 1 2 (replicate 8 (Acc (index 2)))) "r 1 12" 7
    -- "Every line towards p is emptied; lines from p keep their messages."
    ∷ point (with_messages (with_messages (with_messages two 1 1 (Acc (index 2) ∷ [])) 2 1 (Acc (index 3) ∷ [])) 1 2 (Acc (index 4) ∷ [])) "s 1"
    (done (with_messages (with_stop two 1) 1 2 (Acc (index 4) ∷ [])))
    -- "The sender may be stopped when its message is taken."
    ∷ point (with_messages (with_stop two 1) 1 2 (Commit 3 (index 2) ∷ [])) "t 1 2" (done (with_written (with_stop two 1) 2 2 3))
    -- "A message sent to a stopped unit vanishes": the answer is given all the same
    ∷ point (with_record (with_stop two 1) 2 1 3 2) "a 2 1" (done (with_values (with_stop two 1) 2 3 3 1 0 0))
    ∷ []
