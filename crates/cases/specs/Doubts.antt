-- Reports under S-5, each as a sheet's line, with the whole system after it. In a line a view is its digits; in a system it is its byte:
-- 1 is {1}, 2 is {2}, 3 is {1,2}, 4 is {3}, 6 is {2,3}, 7 is {1,2,3}. What comes of each is read off S-5's words, not off the program.
use Rattle.std.specs.Prelude.{ℕ, List, [], ◌∷◌, replicate}
use Rattle.channel.specs.declared.Message.TheVariants.{Propose, Acc}
use Rattle.system.specs.declared.System.{System}
use Rattle.system.specs.Process.{index}
use Rattle.system.specs.Fresh.{fresh_system}
use Rattle.system.specs.Outcome.{done}
use Rattle.cases.specs.Systems.{two, with_values, with_trust_of, with_stop, with_messages}
use Rattle.cases.specs.Points.{Point, point, refuses}

abbrev three : System
three = fresh_system 3

-- process p has this local view
unfoldable pub viewing : System → ℕ → ℕ → System
viewing s p view = with_values s p view 2 1 0 0

-- process 1 is alone, with PropOut 32
unfoldable pub last_alone : System
last_alone = with_values two 1 1 2 32 1 0

abbrev pub doubts : List Point
doubts =
    -- "a beginning suspicion sets it by q's view at that moment": 3 leaves 2's view, and has 2 in its own; "each new view of q without p
    -- turns it on": of 3, whom 2's new view lacks
    point three "r 2 12" (done (with_trust_of (viewing three 2 3) 3 2))
    -- at that moment 3's view lacks 2
    ∷ point (viewing three 3 4) "r 2 12" (done (with_trust_of (with_trust_of (viewing (viewing three 3 4) 2 3) 2 4) 3 2))
    -- what was on before is off: "since p's latest suspicion"
    ∷ point (with_trust_of three 2 4) "r 2 12" (done (with_trust_of (viewing three 2 3) 3 2))
    -- "A suspicion begins when q leaves": not where it is left out once more
    ∷ point (with_trust_of (viewing three 2 3) 2 4) "r 2 12" (done (with_trust_of (with_trust_of (viewing three 2 3) 2 4) 3 2))
    -- a stopped process, whose view stands as it was
    ∷ point (with_stop (viewing two 2 2) 2) "r 1 1"
    (done (with_messages (with_trust_of (with_trust_of (with_stop (viewing (with_values two 1 1 2 2 1 0) 2 2) 2) 1 2) 2 1) 1 1 (Propose 1 (index 2) ∷ [])))
    ∷ point (with_stop two 2) "r 1 1"
    (done (with_messages (with_trust_of (with_stop (with_values two 1 1 2 2 1 0) 2) 2 1) 1 1 (Propose 1 (index 2) ∷ [])))
    -- "a report that brings back a unit q is refused unless": the mark stays as it is
    ∷ refuses (viewing three 2 3) "r 2 123" 13
    ∷ point (with_trust_of (viewing three 2 3) 2 4) "r 2 123" (done (with_trust_of three 2 4))
    -- the mark of the pair (2, 3), not of (3, 2)
    ∷ refuses (with_trust_of (viewing three 2 3) 3 2) "r 2 123" 13
    -- of two that come back, one may not
    ∷ refuses (with_trust_of (viewing three 3 4) 3 2) "r 3 123" 13
    ∷ point (with_trust_of (viewing three 3 4) 3 2) "r 3 23" (done (with_trust_of (with_trust_of (viewing three 3 6) 3 2) 1 4))
    -- "after 4 and before 5": so before 6, 12 and 7 too
    ∷ refuses (viewing three 2 3) "r 2 1234" 4
    ∷ refuses (viewing three 2 3) "r 2 13" 4
    ∷ refuses last_alone "r 1 12" 13
    ∷ refuses (with_trust_of last_alone 1 2) "r 1 12" 6
    ∷ refuses (viewing two 1 1) "r 1 12 cut 9" 13
    ∷ refuses (with_messages (viewing two 1 1) 1 2 (replicate 8 (Acc (index 2)))) "r 1 12" 13
    -- a cut report is a new view; one that is refused is none
    ∷ point two "r 1 1 cut 0" (done (with_stop (with_trust_of (with_values two 1 1 2 2 1 0) 2 1) 1))
    ∷ refuses two "r 1 1 cut 1" 12
    ∷ []
