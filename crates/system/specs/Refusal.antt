-- Document 01's refusal table, and the numbers that document 02 adds.
use Rattle.std.specs.Prelude.{ℕ, Result, Ok, Err}
use Rattle.system.specs.declared.refusal.Refusal.{Refusal}
use Rattle.system.specs.declared.refusal.Refusal.TheVariants.{Unsound, Stranger, Crashed, OddView, NothingThere, HistoryFull, ChannelFull, BadLine, LongSheet, NoRecord, OtherView, CutTooLate, EarlyTrust, TooDeep}

abbrev pub number : Refusal → ℕ
number Unsound = 1
number Stranger = 2
number Crashed = 3
number OddView = 4
number NothingThere = 5
number HistoryFull = 6
number ChannelFull = 7
number BadLine = 8
number LongSheet = 9
number NoRecord = 10
number OtherView = 11
number CutTooLate = 12
number EarlyTrust = 13
number TooDeep = 14

-- "the number 0 and the next table; or a refusal number and the same table": the number of an answer
abbrev pub answer_number : {A : Type 0} → Result A Refusal → ℕ
answer_number (Ok a) = 0
answer_number (Err r) = number r
