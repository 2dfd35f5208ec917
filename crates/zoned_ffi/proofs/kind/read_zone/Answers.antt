use Rattle.zoned_ffi.proofs.Reading.{not_read}
use Rattle.zoned_ffi.proofs.kind.read_zone.Goals as goal

pub returns-clause-fault : goal.returns-clause-fault
returns-clause-fault c = not_read _ _ _ c.read.result c.in-Some.ensures c.read.ensures.fault c.read.ensures.number
