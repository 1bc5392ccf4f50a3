-- The two turns call each other, depth falling at each call. After k turns of a loop the total is that of the pass and the first k moves.
use Prim.Native.Nat.{◌-◌}
use mathlib.Core.Path.{◌≡◌}
use lib.ListN.{length}
use Rattle.image.specs.Image.{image_width, system_in}
use Rattle.orders.specs.Orders.{turned, link_turn, process_turn, run_counts_of}
use Rattle.orders.specs.Walks.{link_move_at, process_move_at}
use Rattle.orders.proofs.Moves.{numbered}
use Rattle.orders.proofs.+link_turn_process_turn.Given as goal

abbrev pub decreases-link_turn : goal.decreases-link_turn
decreases-link_turn l = l.depth

abbrev pub decreases-process_turn : goal.decreases-process_turn
decreases-process_turn l = l.depth

abbrev pub invariant-link_turn-loop-k : goal.invariant-link_turn-loop-k
invariant-link_turn-loop-k l =
    (length l.copied ≡ image_width)
    × (l.total ≡ run_counts_of l.n (turned (λ t. process_turn (l.depth - 1) l.n t) (system_in l.image) (numbered (link_move_at l.each) l.k)))

abbrev pub invariant-process_turn-loop-k : goal.invariant-process_turn-loop-k
invariant-process_turn-loop-k l =
    (length l.copied ≡ image_width)
    × (l.total ≡ run_counts_of l.n (turned (λ t. link_turn (l.depth - 1) l.n t) (system_in l.image) (numbered (process_move_at l.n) l.k)))
