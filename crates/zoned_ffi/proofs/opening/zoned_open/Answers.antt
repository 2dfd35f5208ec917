use Rattle.zoned_ffi.proofs.Words.{inr, ◌∙◌}
use Rattle.zoned_ffi.proofs.opening.zoned_open.Goals as goal

pub returns-in-Err-clause-only : goal.returns-in-Err-clause-only
returns-in-Err-clause-only c z spelled = inr (c.number.ensures.value ∙ c.in-Err.ensures.only z spelled)
