-- `Run::round`: the one half and then the other.
use Rattle.settling.specs.declared.Half.TheVariants.{Answers}
use Rattle.settling.specs.Settle.{half_done, round_done}
use Rattle.settle.proofs.Laws.{as_begun, advance_then}
use Rattle.settle.proofs.Run.round.Goals as goal

pub returns : goal.returns
unfolding round_done
returns c =
    let takes = c.half_round.ensures in
    advance_then _ _ _ _ _ takes (as_begun (λ budget n. half_done budget Answers n) c.args.self.now c.half_round.new.self c.half_round-2.new.self takes.same_budget takes.same_size c.half_round-2.ensures)
