-- `membership::settle`: the settling run, between encoding and decoding.
use Rattle.codec.proofs.Lengths.{value_lengths}
use Rattle.membership.proofs.Between.{settled_between, unsettled_between}
use Rattle.settle.specs.Settles.{settled_of}
use Rattle.membership.proofs.settle.Goals as goal

pub returns-in-Ok : goal.returns-in-Ok
unfolding settled_of
returns-in-Ok c =
    settled_between _ c.blank_image-image.result _ _ (value_lengths _ _ c.well_formed.0) c.blank_image-image.ensures.long c.encode.auto.image c.settle.auto.image c.encode.ensures
    _ c.decode.ensures _ _ c.in-Ok.ensures

pub returns-in-Err : goal.returns-in-Err
unfolding settled_of
returns-in-Err c =
    unsettled_between _ c.blank_image-image.result _ _ (value_lengths _ _ c.well_formed.0) c.blank_image-image.ensures.long c.encode.auto.image c.settle.auto.image c.encode.ensures
    _ _ c.in-Err.ensures
