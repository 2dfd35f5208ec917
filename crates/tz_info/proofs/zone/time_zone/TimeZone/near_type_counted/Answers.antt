use Rattle.tz_info.proofs.{Fits.fits, GapLaws.near_not_refused}
use Rattle.tz_info.proofs.zone.time_zone.TimeZone.near_type_counted.Goals as goal

pub unreachable-requires : goal.unreachable-requires
unreachable-requires c =
    let fs = c.ranges.second in
    near_not_refused _ _ (rw (← c.self.view_is) c.self.invariant.valid) c.requires.near (simp fits at c.in-Err.ensures).found.0
