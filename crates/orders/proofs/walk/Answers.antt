-- `orders::walk`: the image holds the fresh system, which is sound.
use mathlib.Core.Path.{◌∙◌}
use Rattle.step.proofs.Beginning.{fresh_valid}
use Rattle.fresh.proofs.Blank.{fresh_in}
use Rattle.orders.proofs.Moves.{one_of_eight}
use Rattle.orders.proofs.walk.Goals as goal

pub link_turn-requires : goal.link_turn-requires
link_turn-requires c =
    let pre = c.requires in
    record {
      long = c.put_fresh.auto.image ∙ c.blank_image-image.ensures.long;
      sound = rw (fresh_in c.blank_image-image.result c.put_fresh.new.image _ c.blank_image-image.ensures.long c.put_fresh.ensures.system) (fresh_valid _ (one_of_eight c.args.n pre.0)).sound;
      few = pre.0;
      shallow = pre.1;
    }

pub returns : goal.returns
returns c = rw (← (fresh_in c.blank_image-image.result c.put_fresh.new.image _ c.blank_image-image.ensures.long c.put_fresh.ensures.system)) c.link_turn.ensures
