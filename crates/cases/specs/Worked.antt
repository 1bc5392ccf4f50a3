-- A worked sheet: what it starts from, its text, and what is to come of it.
use Rattle.std.specs.Prelude.{ℕ, List, [], ◌∷◌, ◌++◌, map, Result, Ok, Err}
use Prim.Native.String.{String}
use Rattle.view.specs.Logic.{at}
use Rattle.tallies.specs.Tally.{no_tally}
use Rattle.channel.specs.declared.Message.{Message}
use Rattle.channel.specs.Channel.{waiting}
use Rattle.system.specs.declared.System.{System}
use Rattle.system.specs.Outcome.{Outcome}
use Rattle.system.specs.System.{channel_at}
use Rattle.system.specs.Fresh.{fresh_system}
use Rattle.events.specs.Event.{Event, does, ran}
use Rattle.print.specs.Text.{bytes}
use Rattle.sheet.specs.declared.parse.BadFrom.{BadFrom}
use Rattle.sheet.specs.declared.parse.Line.{Line}
use Rattle.sheet.specs.declared.parse.Line.TheVariants.{Step, Settle}
use Rattle.sheet.specs.Lines.{lines_of}
use Rattle.sheet.specs.Parse.{opened, parsed}
use Rattle.run.specs.Output.{answered, printed_then, printed_from, output}

-- A text is written in parts, so that each can stand beside the words that it follows.
unfoldable pub text_of : List String → List ℕ
text_of [] = []
text_of (s ∷ ss) = bytes s ++ text_of ss

-- the steps that the lines of a text ask for; a settling run is left out, so that this is asked of texts without a `q` only
unfoldable pub step_in : Result Line BadFrom → List Event
step_in (Err bad) = []
step_in (Ok (Step o)) = does o ∷ []
step_in (Ok Settle) = []

unfoldable pub steps_in : List (List ℕ) → List Event
steps_in [] = []
steps_in (l ∷ ls) = step_in (parsed l) ++ steps_in ls

unfoldable pub steps_of : List String → List Event
steps_of parts = steps_in (lines_of (text_of parts))

-- A sheet starts from its own first line, or from what is handed over: a system, with the number that it was given out with.
pub data Start : Type 0 where
  its_own : Start
  handed : Outcome → Start

-- a channel and the messages that wait on it, oldest first
pub record Queue : Type 0 where
  pub from : ℕ
  pub to : ℕ
  pub messages : List Message

pub record WorkedSheet : Type 0 where
  pub starts_from : Start
  pub text : List String
  -- the text that is to be printed
  pub printed : List String
  -- the channels that the case speaks of, as they are to be after the last line
  pub queues : List Queue

-- what comes of a sheet
pub record SheetResult : Type 0 where
  pub shown : List ℕ
  pub left : List Queue

-- what is printed. The number that a system was given out with is printed as that of line 1
unfoldable pub printed_by : Start → List ℕ → List ℕ
printed_by its_own t = output t
printed_by (handed o) t = printed_then (answered 1 no_tally o) (λ s. printed_from 2 s (lines_of t))

-- the system that the lines run on
unfoldable pub opened_with : Result ℕ BadFrom → System
opened_with (Err bad) = fresh_system 0
opened_with (Ok n) = fresh_system n

unfoldable pub start_of : Start → List (List ℕ) → System
start_of its_own ls = opened_with (opened (at ls 1 []))
start_of (handed o) ls = o.system

unfoldable pub ran_on : Start → List (List ℕ) → System
ran_on x ls = ran (start_of x ls) (steps_in ls)

unfoldable pub queue_in : System → Queue → Queue
queue_in s c = record { from = c.from; to = c.to; messages = waiting (channel_at s c.from c.to) }

-- by the definitions
unfoldable pub result_of : WorkedSheet → SheetResult
result_of w =
    record {
      shown = printed_by w.starts_from (text_of w.text);
      left = map (queue_in (ran_on w.starts_from (lines_of (text_of w.text)))) w.queues;
    }

-- by the case
unfoldable pub expected_result : WorkedSheet → SheetResult
expected_result w = record { shown = text_of w.printed; left = w.queues }
