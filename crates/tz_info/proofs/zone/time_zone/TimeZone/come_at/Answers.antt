use Rattle.tz_info.proofs.{EntryChanges.{have_come, looks_most}, Fits.fits, Words.arith}
use Rattle.tz_info.proofs.zone.time_zone.TimeZone.come_at.Goals as goal

pub returns-then-has_leap_time : goal.returns-then-has_leap_time
returns-then-has_leap_time c =
    let fu = c.ranges.unix_time in
    let time = simp fits at (c.has_leap_time.ensures.yes c.if-has_leap_time.true) in
    record {
      come = rw (← c.self.view_is) (have_come _ _ _ _ c.self.invariant.valid c.self.invariant.list fu time (simp fits at c.come.ensures.come));
      cost = grind (arith, looks_most);
      looked = grind arith;
    }
