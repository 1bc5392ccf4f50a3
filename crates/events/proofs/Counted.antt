-- What two lists of events count, one after the other.
use mathlib.Core.Path.{◌≡◌, sym, ◌∙◌, ap}
use mathlib.Core.List.{List, [], ◌∷◌, ◌++◌}
use Rattle.tallies.specs.declared.Tally.{Tally}
use Rattle.tallies.specs.Tally.{no_tally, plus}
use Rattle.tallies.proofs.Laws.{plus_none, none_plus, plus-plus}
use Rattle.system.specs.declared.System.{System}
use Rattle.events.specs.Event.{Event, ran, Move, moved, moves_in, grown}
use Rattle.events.specs.Counts.{move_tally, tally_then, events_tally}
use Rattle.events.proofs.Moves.{run_grown}

tally_from : (a : Tally) (s : System) (ms : List Move) → grown tally_then a s ms ≡ plus a (grown tally_then no_tally s ms)
unfolding grown tally_then
tally_from a s [] = sym (plus_none a)
tally_from a s (m ∷ ms) =
    let t = (moved s m).system in
    tally_from (plus a (move_tally s m)) t ms
    ∙ plus-plus a (move_tally s m) (grown tally_then no_tally t ms)
    ∙ ap (plus a) (sym (tally_from (move_tally s m) t ms) ∙ ap (λ (b : Tally). grown tally_then b t ms) (sym (none_plus (move_tally s m))))

pub tally_append : (s : System) (es fs : List Event) → events_tally s (es ++ fs) ≡ plus (events_tally s es) (events_tally (ran s es) fs)
unfolding events_tally
tally_append s es fs = run_grown s es fs tally_then no_tally ∙ tally_from (grown tally_then no_tally s (moves_in s es)) (ran s es) (moves_in (ran s es) fs)
