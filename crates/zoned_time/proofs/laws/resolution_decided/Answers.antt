use Rattle.zoned_time.proofs.Words.{inl, shown}
use Rattle.zoned_time.proofs.laws.resolution_decided.Goals as goal

pub returns-in-Ok : goal.returns-in-Ok
returns-in-Ok g c = let d = c.in-Ok.field-0 in inl (shown d.datetime d.offset, c.in-Ok.ensures)
