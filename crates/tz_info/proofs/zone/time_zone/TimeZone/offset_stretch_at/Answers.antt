use Rattle.tz_info.proofs.Fits.{fits}
use Rattle.tz_info.proofs.zone.time_zone.TimeZone.offset_stretch_at.Goals as goal

pub returns-in-None-clause-at : goal.returns-in-None-clause-at
returns-in-None-clause-at c =
    let fu = c.ranges.unix_time in
    simp fits at c.in-None.ensures.at
