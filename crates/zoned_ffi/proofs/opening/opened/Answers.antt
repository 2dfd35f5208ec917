use Rattle.zoned_ffi.proofs.Reading.{no_memory_refused}
use Rattle.zoned_ffi.proofs.opening.opened.Goals as goal

pub returns-in-None-clause-fault : goal.returns-in-None-clause-fault
returns-in-None-clause-fault c = no_memory_refused _ _ _ c.in-Ok.ensures.found

pub returns-in-Err-clause-only : goal.returns-in-Err-clause-only
returns-in-Err-clause-only c = c.in-Err.ensures.only
