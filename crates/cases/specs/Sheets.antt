-- Document 01's "Bench sheets to get right": the cases marked K, each as a text, with the text that is to be printed by the words
-- of document 01; then small sheets at the edges of the form. A whole sheet of the name `k1` or `no_last_lf` stands as K1.sheet
-- and K1.out or no_last_lf.sheet and no_last_lf.out in crates/sheets/data too: tests/worked compares them.
use Prim.Native.String.{String}
use Rattle.std.specs.Prelude.{false, List, [], ◌∷◌, ◌++◌, replicate, None}
use Rattle.channel.specs.declared.Message.{Message}
use Rattle.channel.specs.declared.Message.TheVariants.{Propose, Retry, Acc}
use Rattle.channel.specs.Channel.{empty_channel}
use Rattle.system.specs.declared.System.{System}
use Rattle.system.specs.Outcome.{Outcome, done}
use Rattle.system.specs.Process.{index}
use Rattle.system.specs.Fresh.{fresh_process, fresh_of}
use Rattle.cases.specs.Systems.{lone}
use Rattle.cases.specs.Worked.{WorkedSheet, Queue, its_own, handed}

-- a whole sheet, and what is printed for it
abbrev whole_sheet : List String → List String → WorkedSheet
whole_sheet text printed = record { starts_from = its_own; text = text; printed = printed; queues = [] }

-- what is handed over, the lines from number 2 on, what is printed, and the channels that the case speaks of
abbrev handing_over : Outcome → List String → List String → List Queue → WorkedSheet
handing_over o text printed queues = record { starts_from = handed o; text = text; printed = printed; queues = queues }

-- the channel of process 1 to itself
abbrev to_itself : List Message → List Queue
to_itself ms = record { from = 1; to = 1; messages = ms } ∷ []

-- K1
unfoldable pub k1 : WorkedSheet
k1 =
    whole_sheet ("u 2\nr 1 1\nt 1 1\na 1 1\nt 1 1\nt 1 1\nr 2 1\n" ∷ [])
    ("2 0\n3 0\n4 0\n5 0\n6 0\n7 4\n"
    ∷ "unit 1 live next 3 1=12 2=1\n"
    ∷ "unit 2 live next 2 1=12\n"
    ∷ [])

-- the complete system after K1: process 1 has committed {1} at index 2, and nothing waits
unfoldable pub k1_ends : System
k1_ends =
    record {
      n = 2;
      processes =
          record {
            variables = record { crashed = false; view = 1; next = index 3; propout = index 2; proposal = 1; acks = 0 };
            pending = replicate 8 None;
            history = record { entries = 3 ∷ 1 ∷ replicate 30 0 };
          }
          ∷ replicate 7 (fresh_process 2);
      channels = replicate 64 empty_channel;
      -- process 2 may trust process 1 again, whose view lacked it; not the other way round
      trust = 0 ∷ 1 ∷ replicate 6 0;
    }

-- K2. Document 02: "K2 would now stop at unit 2's second report", line 7: unit 1's view never lacked 2
unfoldable pub k2 : WorkedSheet
k2 =
    whole_sheet
    -- "two units; 2 reports {2} and carries it through to position 2"
    ("u 2\nr 2 2\nt 2 2\na 2 2\nt 2 2\nt 2 2\n"
    -- "2 reports {1,2}; 1 reports {1,2}, proposing at 2"
    ∷ "r 2 12\nr 1 12\n"
    -- "unit 1 accepts"; unit 2, whose view is still {2}, does not answer
    ∷ "t 1 1\na 1 1\nt 1 2\na 2 1\nt 1 1\nt 2 1\n"
    -- and there is no second proposal
    ∷ "t 1 1\na 1 1\nt 1 2\na 2 1\nt 1 1\nt 2 1\nt 1 1\nt 1 2\n"
    ∷ [])
    ("2 0\n3 0\n4 0\n5 0\n6 0\n"
    ∷ "7 13\n8 0\n"
    ∷ "9 0\n10 0\n11 0\n12 11\n13 0\n14 5\n"
    ∷ "15 5\n16 10\n17 5\n18 11\n19 5\n20 5\n21 5\n22 5\n"
    ∷ "unit 1 live next 3 1=12\n"
    ∷ "unit 2 live next 3 1=12 2=2\n"
    ∷ [])

-- K3: "entries at 1 and 9, Next 10."
unfoldable pub k3 : WorkedSheet
k3 =
    whole_sheet
    -- "one unit; eight reports of {1} are taken, a ninth gives 7"
    ("u 1\nr 1 1\nr 1 1\nr 1 1\nr 1 1\nr 1 1\nr 1 1\nr 1 1\nr 1 1\nr 1 1\n"
    -- "Eight takes, one answer, two takes"
    ∷ "t 1 1\nt 1 1\nt 1 1\nt 1 1\nt 1 1\nt 1 1\nt 1 1\nt 1 1\na 1 1\nt 1 1\nt 1 1\n"
    ∷ [])
    ("2 0\n3 0\n4 0\n5 0\n6 0\n7 0\n8 0\n9 0\n10 7\n"
    ∷ "11 0\n12 0\n13 0\n14 0\n15 0\n16 0\n17 0\n18 0\n19 0\n20 0\n21 0\n"
    ∷ "unit 1 live next 10 1=1 9=1\n"
    ∷ [])

-- K4: "one unit with PropOut 31 reports: position 32 is proposed. The next report gives 6, also if the line is full."
unfoldable pub k4 : WorkedSheet
k4 =
    handing_over (done (lone 31 1 0 [])) ("r 1 1\nr 1 1\n" ∷ []) ("1 0\n2 0\n3 6\nunit 1 live next 2 1=1\n" ∷ [])
    (to_itself (Propose 1 (index 32) ∷ []))

unfoldable pub k4_full : WorkedSheet
k4_full =
    handing_over (done (lone 31 1 0 (replicate 7 (Acc (index 2))))) ("r 1 1\nr 1 1\n" ∷ [])
    ("1 0\n2 0\n3 6\nunit 1 live next 2 1=1\n" ∷ [])
    (to_itself (replicate 7 (Acc (index 2)) ++ (Propose 1 (index 32) ∷ [])))

-- K5: "a Retry(2,33) for current proposal 2 gives 6 and stays"
unfoldable pub k5_stays : WorkedSheet
k5_stays =
    handing_over (done (lone 2 1 0 (Retry (index 2) (index 33) ∷ []))) ("t 1 1\n" ∷ []) ("1 0\n2 6\nunit 1 live next 2 1=1\n" ∷ [])
    (to_itself (Retry (index 2) (index 33) ∷ []))

-- "after a report of {1} (PropOut 3) it is taken and ignored."
unfoldable pub k5 : WorkedSheet
k5 =
    handing_over (done (lone 2 1 0 (Retry (index 2) (index 33) ∷ []))) ("t 1 1\nr 1 1\nt 1 1\n" ∷ [])
    ("1 0\n2 6\n3 0\n4 0\nunit 1 live next 2 1=1\n" ∷ [])
    (to_itself (Propose 1 (index 3) ∷ []))

-- K6: "a line to itself holding 8, first a Retry to act on: the take is done, since its room is free."
unfoldable pub k6 : WorkedSheet
k6 =
    handing_over (done (lone 2 1 0 (Retry (index 2) (index 3) ∷ replicate 7 (Acc (index 2))))) ("t 1 1\n" ∷ [])
    ("1 0\n2 0\nunit 1 live next 2 1=1\n" ∷ [])
    (to_itself (replicate 7 (Acc (index 2)) ++ (Propose 1 (index 3) ∷ [])))

-- K7
unfoldable pub k7 : WorkedSheet
k7 =
    whole_sheet
    -- "unit 9 gives 2; unit 0 gives 2"
    ("u 1\nr 9 1\nr 0 1\nt 9 1\nt 1 0\na 1 9\na 0 1\ns 9\ns 0\n"
    -- "a stopped unit with an odd view gives 3"
    ∷ "s 1\nr 1 -\nr 1 2\n"
    ∷ [])
    ("2 2\n3 2\n4 2\n5 2\n6 2\n7 2\n8 2\n9 2\n" ∷ "10 0\n11 3\n12 3\n" ∷ "unit 1 stopped next 2 1=1\n" ∷ [])

-- K8: "the fresh table of zero units gives 2, and every step on it gives 1"; so does the one of nine, a table of zero units too
unfoldable pub k8 : WorkedSheet
k8 = handing_over (fresh_of 0) ("r 1 1\nr 0 -\nt 1 1\na 1 1\ns 1\ns 0\n" ∷ []) ("1 2\n2 1\n3 1\n4 1\n5 1\n6 1\n7 1\n" ∷ []) []

unfoldable pub k8_nine : WorkedSheet
k8_nine = handing_over (fresh_of 9) ("r 1 1\nr 9 -\nt 1 1\na 1 1\ns 1\ns 9\n" ∷ []) ("1 2\n2 1\n3 1\n4 1\n5 1\n6 1\n7 1\n" ∷ []) []

-- K9: "Unit 1 ends with 1 and 4 as 12; unit 2 with 1 as 12, 2 and 3 as 2, 4 as 12; both Next 5."
unfoldable pub k9 : WorkedSheet
k9 =
    whole_sheet
    -- "two units; 2 reports {2} and carries it to position 2, then again to 3"
    ("u 2\nr 2 2\nt 2 2\na 2 2\nt 2 2\nt 2 2\nr 2 2\nt 2 2\na 2 2\nt 2 2\nt 2 2\n"
    -- "1 reports {1}, proposing at 2; 2 reports {1,2}; 1 reports {1,2}, proposing at 3"
    ∷ "r 1 1\nr 2 12\nr 1 12\n"
    -- "1 takes both its own proposals and accepts at 3, 2 answers Retry(3,4)"
    ∷ "t 1 1\nt 1 1\na 1 1\nt 1 2\na 2 1\nt 1 1\nt 2 1\n"
    -- "both accept at 4"
    ∷ "t 1 1\na 1 1\nt 1 2\na 2 1\nt 1 1\nt 2 1\nt 1 1\nt 1 2\n"
    ∷ [])
    ("2 0\n3 0\n4 0\n5 0\n6 0\n7 0\n8 0\n9 0\n10 0\n11 0\n"
    ∷ "12 0\n13 0\n14 0\n"
    ∷ "15 0\n16 0\n17 0\n18 0\n19 0\n20 0\n21 0\n"
    ∷ "22 0\n23 0\n24 0\n25 0\n26 0\n27 0\n28 0\n29 0\n"
    ∷ "unit 1 live next 5 1=12 4=12\n"
    ∷ "unit 2 live next 5 1=12 2=2 3=2 4=12\n"
    ∷ [])

-- the cases marked K
abbrev pub k_sheets : List WorkedSheet
k_sheets = k1 ∷ k2 ∷ k3 ∷ k4 ∷ k4_full ∷ k5_stays ∷ k5 ∷ k6 ∷ k7 ∷ k8 ∷ k8_nine ∷ k9 ∷ []

-- ---- the form
-- "Lines end with a line feed, which the last may lack."
unfoldable pub no_last_lf : WorkedSheet
no_last_lf = whole_sheet ("u 1\nr 1 1" ∷ []) ("2 0\nunit 1 live next 2 1=1\n" ∷ [])

-- "`u N` first and only first"
unfoldable pub later_u : WorkedSheet
later_u =
    whole_sheet ("u 2\ns 2\nu 2\nt 1 2\nu 3\ns 3\nu\nu 9\n" ∷ [])
    ("2 0\n3 8 1\n4 3\n5 8 1\n6 2\n7 8 1\n8 8 1\n" ∷ "unit 1 live next 2 1=12\nunit 2 stopped next 2 1=12\n" ∷ [])

-- "Anything else, an empty line too, is refusal 8"; "A refused line does not end the run."
unfoldable pub empty_lines : WorkedSheet
empty_lines = whole_sheet ("u 1\n\nr 1 1\n\n\n" ∷ []) ("2 8 1\n3 0\n4 8 1\n5 8 1\nunit 1 live next 2 1=1\n" ∷ [])

-- "if the first line is, so is every line after it": N is 1 to 8
unfoldable pub first_u9 : WorkedSheet
first_u9 = whole_sheet ("u 9\nu 1\nr 1 1\n" ∷ []) ("1 8 3\n2 8 0\n3 8 0\n" ∷ [])

unfoldable pub one_lf : WorkedSheet
one_lf = whole_sheet ("\n" ∷ []) ("1 8 1\n" ∷ [])

-- "an empty sheet prints nothing"
unfoldable pub empty : WorkedSheet
empty = whole_sheet [] []

-- S-4: two takes and two answers; process 1 takes both Accs, process 2 its Commit; then process 1 its own
unfoldable pub settle_two : WorkedSheet
settle_two =
    whole_sheet ("u 2\nr 1 12\nq\nq \nq\n" ∷ [])
    ("2 0\n3 0 8 rest\n4 8 2\n5 0 0 rest\n" ∷ "unit 1 live next 3 1=12 2=12\n" ∷ "unit 2 live next 3 1=12 2=12\n" ∷ [])

abbrev pub form_sheets : List WorkedSheet
form_sheets = settle_two ∷ no_last_lf ∷ later_u ∷ empty_lines ∷ first_u9 ∷ one_lf ∷ empty ∷ []
