-- Systems computed: the claim is met by some, and each of these conditions is needed: no message waits, no answer could be given, each
-- process of the view is live and has just that view, and S-5.
use Rattle.std.specs.Prelude.{ℕ, ◌≡◌, Bool, true, false, List, [], ◌∷◌, map}
use Rattle.view.specs.declared.ProcessId.{ProcessId}
use Rattle.view.specs.Logic.{all_up_to}
use Rattle.system.specs.declared.System.{System}
use Rattle.system.specs.System.{with_trust, trusting, entry_in}
use Rattle.sound.specs.Sound.{sound_system}
use Rattle.plan.specs.declared.Action.TheVariants.{Report}
use Rattle.plan.specs.Cut.{whole}
use Rattle.step.specs.Step.{stepped}
use Rattle.step.specs.Rest.{idle_from, at_rest}
use Rattle.events.specs.Event.{Event, ran}
use Rattle.events.specs.Tallied.{r, t, a, x, report_cut}
use Rattle.settling.specs.declared.Ending.{Ending}
use Rattle.settling.specs.declared.Ending.TheVariants.{Rest}
use Rattle.settling.specs.Settle.{Settled, settled, settling_budget}
use Rattle.agreement.specs.Demand.{start}
use Rattle.quiet.specs.Quiet.{last_non_empty, is_common, Final}

abbrev process : ℕ → ProcessId
process k = record { 0 = k }

-- ---- what is seen of a system and a view, and of some processes
unfoldable pub none_waits_at : System → ℕ → Bool
none_waits_at s p = all_up_to s.n (idle_from s p)

-- no message waits
unfoldable pub none_waits : System → Bool
none_waits s = all_up_to s.n (none_waits_at s)

unfoldable pub last_view : System → ℕ → ℕ
last_view s p = entry_in s p (last_non_empty s p)

pub record Seen : Type 0 where
  pub nobody_waits : Bool
  pub rests : Bool
  pub common : Bool
  -- the last non-empty index of each, and what it holds
  pub last : List ℕ
  pub views : List ℕ

unfoldable pub seen : System → ℕ → List ℕ → Seen
seen s v ks = record { nobody_waits = none_waits s; rests = at_rest s; common = is_common s v; last = map (last_non_empty s) ks; views = map (last_view s) ks }

-- ---- it is not vacuous
-- the example in section 6.6 of source document 000, and then a settling run: all four have 1234 at index 6
unfoldable pub example66 : List Event
example66 =
    r 1 13 ∷ r 2 14 ∷ t 1 3 ∷ t 2 3 ∷ a 3 1 ∷ a 3 2 ∷ t 1 4 ∷ t 2 4 ∷ a 4 1 ∷ a 4 2 ∷ r 1 9 ∷ r 3 14 ∷ a 3 2 ∷ r 4 14 ∷ a 4 2 ∷ r 1 1 ∷ t 1 1
    ∷ t 1 1 ∷ t 1 1 ∷ a 1 1 ∷ t 1 1 ∷ t 1 1 ∷ t 2 2 ∷ a 2 2 ∷ t 2 2 ∷ t 3 2 ∷ t 4 2 ∷ t 2 2 ∷ t 2 3 ∷ r 2 6 ∷ r 4 12 ∷ r 3 15 ∷ r 1 13 ∷ r 4 13
    ∷ t 2 3 ∷ t 1 3 ∷ a 3 2 ∷ a 3 1 ∷ t 1 4 ∷ t 1 4 ∷ a 4 1 ∷ r 1 15 ∷ t 1 3 ∷ a 3 1 ∷ r 2 15 ∷ t 1 2 ∷ a 2 1 ∷ r 4 15 ∷ t 1 4 ∷ a 4 1 ∷ t 2 4
    ∷ t 1 1 ∷ t 1 1 ∷ a 1 1 ∷ t 1 1 ∷ t 2 1 ∷ t 3 1 ∷ t 4 1 ∷ t 4 1 ∷ t 1 1 ∷ t 1 2 ∷ t 1 3 ∷ t 1 4 ∷ []

-- what a settling run says, and what is seen then
pub record SettledSeen : Type 0 where
  pub ending : Ending
  pub steps : ℕ
  pub then : Seen

unfoldable pub settled_seen : Settled → ℕ → List ℕ → SettledSeen
settled_seen o v ks = record { ending = o.ending; steps = o.steps; then = seen o.system v ks }

abbrev pub Example66 : Type 0
Example66 =
    settled_seen (settled settling_budget (ran (start 4) example66)) 15 (1 ∷ 2 ∷ 3 ∷ 4 ∷ [])
    ≡ record {
      ending = Rest;
      steps = 1;
      then = record { nobody_waits = true; rests = true; common = true; last = 6 ∷ 6 ∷ 6 ∷ 6 ∷ []; views = 15 ∷ 15 ∷ 15 ∷ 15 ∷ [] };
    }

-- three processes: the first is cut while it proposes, and the other two agree without it
unfoldable pub one_cut : List Event
one_cut =
    report_cut 1 7 2 ∷ r 2 6 ∷ r 3 6 ∷ t 1 2 ∷ t 2 2 ∷ t 2 3 ∷ a 2 2 ∷ a 3 2 ∷ t 2 2 ∷ t 3 2 ∷ t 2 3 ∷ t 2 2 ∷ []

abbrev pub OneCut : Type 0
OneCut =
    seen (ran (start 3) one_cut) 6 (1 ∷ 2 ∷ 3 ∷ [])
    ≡ record { nobody_waits = true; rests = true; common = true; last = 1 ∷ 2 ∷ 2 ∷ []; views = 7 ∷ 6 ∷ 6 ∷ [] }

-- the opening view, with no report at all
abbrev pub NoReport : Type 0
NoReport = seen (start 2) 3 (1 ∷ 2 ∷ []) ≡ record { nobody_waits = true; rests = true; common = true; last = 1 ∷ 1 ∷ []; views = 3 ∷ 3 ∷ [] }

-- ---- each condition is needed
-- a message waits: process 1 has proposed {1} to itself
abbrev pub MessageWaits : Type 0
MessageWaits =
    seen (ran (start 2) (r 1 1 ∷ [])) 1 (1 ∷ []) ≡ record { nobody_waits = false; rests = false; common = true; last = 1 ∷ []; views = 3 ∷ [] }

-- an answer could be given: no message waits, and the first process of two has its own view {1}, but not the entry
unfoldable pub unanswered : List Event
unanswered = r 1 1 ∷ t 1 1 ∷ []

abbrev pub Unanswered : Type 0
Unanswered =
    seen (ran (start 2) unanswered) 1 (1 ∷ []) ≡ record { nobody_waits = true; rests = false; common = true; last = 1 ∷ []; views = 3 ∷ [] }

-- process 2 alone carries {2} through: the view of both is not common to both, and process 1, which is not in {2}, has another last index
unfoldable pub apart_from1 : List Event
apart_from1 = r 2 2 ∷ t 2 2 ∷ a 2 2 ∷ t 2 2 ∷ t 2 2 ∷ []

abbrev pub OtherView : Type 0
OtherView =
    seen (ran (start 2) apart_from1) 3 (1 ∷ 2 ∷ [])
    ≡ record { nobody_waits = true; rests = true; common = false; last = 1 ∷ 2 ∷ []; views = 3 ∷ 2 ∷ [] }

abbrev pub OtherProcess : Type 0
OtherProcess =
    seen (ran (start 2) apart_from1) 2 (1 ∷ 2 ∷ [])
    ≡ record { nobody_waits = true; rests = true; common = true; last = 1 ∷ 2 ∷ []; views = 3 ∷ 2 ∷ [] }

-- process 2 has stopped before it took the Commit
unfoldable pub stopped_before : List Event
stopped_before = r 1 3 ∷ t 1 1 ∷ t 1 2 ∷ a 1 1 ∷ a 2 1 ∷ t 1 1 ∷ t 2 1 ∷ x 2 ∷ t 1 1 ∷ []

abbrev pub Stopped : Type 0
Stopped =
    seen (ran (start 2) stopped_before) 3 (1 ∷ 2 ∷ [])
    ≡ record { nobody_waits = true; rests = true; common = false; last = 2 ∷ 1 ∷ []; views = 3 ∷ 3 ∷ [] }

-- a report, though of the same view: process 1 is told 12 again, and has a new entry before process 2 has it
unfoldable pub told_again : List Event
told_again = r 1 3 ∷ t 1 1 ∷ a 1 1 ∷ t 1 2 ∷ a 2 1 ∷ t 1 1 ∷ t 2 1 ∷ t 1 1 ∷ []

abbrev pub ToldAgain : Type 0
ToldAgain =
    seen (ran (start 2) told_again) 3 (1 ∷ 2 ∷ [])
    ≡ record { nobody_waits = false; rests = false; common = true; last = 2 ∷ 1 ∷ []; views = 3 ∷ 3 ∷ [] }

-- S-5: process 2 accepts {2} and then wants 1 back, too early: 13
unfoldable pub accepted2 : List Event
accepted2 = r 2 2 ∷ t 2 2 ∷ a 2 2 ∷ []

unfoldable pub back_again : List Event
back_again = r 2 3 ∷ t 2 2 ∷ t 2 2 ∷ []

-- the mark of the pair (2, 1) is turned on by hand
unfoldable pub trusted_by_hand : System → System
trusted_by_hand s = with_trust s (trusting s.trust 2 1 true)

pub record Needed : Type 0 where
  pub refused : (stepped (ran (start 2) accepted2) (whole (Report (process 2) 3))).refusal ≡ 13
  -- with it the system is sound, and ends at rest with both views 12; but process 1 has 12 at index 1, and process 2 has {2} at index 2
  pub sound : sound_system (trusted_by_hand (ran (start 2) accepted2)) ≡ true
  pub ends : seen (ran (trusted_by_hand (ran (start 2) accepted2)) back_again) 3 (1 ∷ 2 ∷ [])
      ≡ record { nobody_waits = true; rests = true; common = true; last = 1 ∷ 2 ∷ []; views = 3 ∷ 2 ∷ [] }
  pub refuted : Final (ran (trusted_by_hand (ran (start 2) accepted2)) back_again) 3 → ⊥
