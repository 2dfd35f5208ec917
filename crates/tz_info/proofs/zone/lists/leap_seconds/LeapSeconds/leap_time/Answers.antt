use Rattle.tz_info.proofs.{Fits.fits, LeapStarts.{leap_time_fits, passed_at_most}, Words.linear}
use Rattle.tz_info.proofs.zone.lists.leap_seconds.LeapSeconds.leap_time.Goals as goal

pub correction_after-requires : goal.correction_after-requires
correction_after-requires c =
    rw (c.deref-2.ensures.value, rw c.deref.ensures.value at c.passed_at-passed.ensures) (passed_at_most _ _)

pub overflow_add-result : goal.overflow_add-result
overflow_add-result c =
    let has = c.if-not-has_leap_time.ensures.yes in
    let sum = leap_time_fits c.args.self.now c.args.unix_time in grind (linear, fits)

pub returns : goal.returns
returns c =
    let has = c.if-not-has_leap_time.ensures.yes in
    let sum = leap_time_fits c.args.self.now c.args.unix_time in grind (linear, fits)
