use Rattle.zoned_ffi.proofs.{Words.{arith}, Reading.{text_refused}}
use Rattle.zoned_ffi.proofs.kind.read_text.Goals as goal

pub returns-in-Ok-from_posix_tz-clause-only : goal.returns-in-Ok-from_posix_tz-clause-only
returns-in-Ok-from_posix_tz-clause-only c z spelled = c.in-Ok-from_posix_tz.ensures.only z (rw c.in-Ok.ensures.cases.0 spelled.1)

pub returns-in-Err-clause-only : goal.returns-in-Err-clause-only
returns-in-Err-clause-only c z spelled = c.in-Err.ensures.only z (rw c.in-Ok.ensures.cases.0 spelled.1)

pub returns-in-Err-clause-fault : goal.returns-in-Err-clause-fault
returns-in-Err-clause-fault c = let fault = text_refused c.in-Ok.text.now c.in-Err.error in grind arith
