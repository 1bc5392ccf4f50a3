-- `class::names::Names::new`: all names are left.
use Rattle.class.proofs.Reading.{all_left}
use Rattle.class.proofs.names.Names.new.Goals as goal

pub returns : goal.returns
returns g c = all_left c.large_buffer.result _
