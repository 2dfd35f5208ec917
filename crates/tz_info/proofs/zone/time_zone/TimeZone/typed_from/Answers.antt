use Rattle.tz_info.proofs.TypedLaws.{first_typed}
use Rattle.tz_info.proofs.zone.time_zone.TimeZone.typed_from.Goals as goal

pub returns-in-Err : goal.returns-in-Err
returns-in-Err c = first_typed _ (rw (← c.self.view_is) c.self.invariant.valid) (rw (← c.self.view_is) c.self.invariant.limits) c.in-Err.ensures.0
