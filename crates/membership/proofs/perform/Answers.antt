-- `membership::perform`: the step of the engine, between encoding and decoding.
use Rattle.codec.proofs.Lengths.{value_lengths}
use Rattle.membership.proofs.Between.{between, refused_between}
use Rattle.membership.proofs.perform.Goals as goal

pub returns-in-Ok : goal.returns-in-Ok
returns-in-Ok c =
    between _ c.blank_image-image.result _ _ (value_lengths _ _ c.well_formed.0) c.blank_image-image.ensures.long c.encode.auto.image c.perform.auto.image c.encode.ensures
    _ c.decode.ensures _ c.in-Ok.ensures

pub returns-in-Err : goal.returns-in-Err
returns-in-Err c =
    refused_between _ c.blank_image-image.result _ _ (value_lengths _ _ c.well_formed.0) c.blank_image-image.ensures.long c.encode.auto.image c.perform.auto.image c.encode.ensures
    _ _ c.in-Err.ensures
