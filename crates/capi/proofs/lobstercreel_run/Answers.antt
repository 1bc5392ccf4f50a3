-- `capi::lobstercreel_run`: what the run of a sheet prints.
use Rattle.capi.proofs.Printed.{printed}
use Rattle.capi.proofs.lobstercreel_run.Goals as goal

pub returns : goal.returns
returns c = printed _ _ _ _ c.run_sheet.ensures
