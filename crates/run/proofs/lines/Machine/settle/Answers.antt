-- `Machine::settle`: the numbers of the run, and how it ended.
use Rattle.std.proofs.Common.{rules, ap}
use Rattle.tallies.specs.Tally.{no_tally}
use Rattle.settling.specs.Settle.{Settled}
use Rattle.settle.specs.Settles.{tally_in}
use Rattle.settle.specs.Settles.{settled_told}
use Rattle.print.proofs.Typing.{typed_in_turn}
use Rattle.run.specs.Output.{settled_as, line_done}
use Rattle.run.proofs.lines.Machine.settle.Goals as goal

pub returns-in-Ok : goal.returns-in-Ok
unfolding line_done settled_as settled_told tally_in
returns-in-Ok c =
    let answer = rw c.in-Ok.is at c.settle.ensures.outcome in
    record {
      text = rw (← answer) (typed_in_turn _ _ _ _ _ c.three_numbers.ensures c.put_ending.ensures);
      system = ap (λ (o : Settled). o.system) answer;
      tally = λ on. rw c.in-Ok.is at c.settle.ensures.tally;
    }

pub returns-in-Err : goal.returns-in-Err
unfolding line_done settled_as settled_told tally_in no_tally
returns-in-Err c =
    let answer = rw c.in-Err.is at c.settle.ensures.outcome in
    record {
      text = rw (← answer, ← c.from.ensures) (typed_in_turn _ _ _ _ _ c.three_numbers-in-Err.ensures c.put_ending-in-Err.ensures);
      system = ap (λ (o : Settled). o.system) answer;
      tally = λ on. search rules;
    }
