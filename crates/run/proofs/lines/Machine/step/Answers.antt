-- `Machine::step`: with what it counts, or without.
use Rattle.std.proofs.Common.{sym, ◌∙◌}
use Rattle.view.proofs.Laws.{true_is_not_false}
use Rattle.tallies.specs.Tally.{no_tally}
use Rattle.counting.proofs.Counting.{sound_counts}
use Rattle.run.proofs.Laws.{nothing_yet}
use Rattle.run.specs.Output.{answered, line_done}
use Rattle.run.proofs.lines.Machine.step.Goals as goal

pub returns-in-Ok : goal.returns-in-Ok
unfolding line_done answered
returns-in-Ok c =
    let sound = c.args.self.now.sound in
    let done = (c.attempt_tallied.ensures.step.steps sound).outcome in
    record {
      text = rw (← done, c.in-Ok.is) c.numbered.ensures;
      system = rw (← done);
      tally = λ on. rw c.in-Ok.is at c.attempt_tallied.ensures.tally ∙ sound_counts _ _ sound;
    }

pub returns-in-Err : goal.returns-in-Err
unfolding line_done answered no_tally
returns-in-Err c =
    let sound = c.args.self.now.sound in
    let done = (c.attempt_tallied.ensures.step.steps sound).outcome in
    record {
      text = rw (← done, c.in-Err.is, ← c.from.ensures) c.numbered-in-Err.ensures;
      system = rw (← done);
      tally = λ on. nothing_yet c.default.result c.default.ensures ∙ rw c.in-Err.is at c.attempt_tallied.ensures.tally ∙ sound_counts _ _ sound;
    }

pub returns-else-counting : goal.returns-else-counting
unfolding line_done answered
returns-else-counting c =
    let sound = c.args.self.now.sound in
    let done = (c.attempt.ensures.steps sound).outcome in
    record {
      text = rw (← done, ← c.number_of.ensures) c.numbered-else-counting.ensures;
      system = rw (← done);
      tally = λ on. true_is_not_false (sym on ∙ c.if-counting.false);
    }
