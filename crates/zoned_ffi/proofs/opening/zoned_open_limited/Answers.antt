use Rattle.zoned_ffi.proofs.Words.{inl}
use Rattle.zoned_ffi.proofs.opening.zoned_open_limited.Goals as goal

pub returns-clause-only : goal.returns-clause-only
returns-clause-only c z spelled = inl (c.zoned_open.ensures.only z spelled)
