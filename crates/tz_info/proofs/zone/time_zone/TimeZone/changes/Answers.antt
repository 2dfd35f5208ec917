use Rattle.tz_info.proofs.{ChangeLaws.all_left, Fits.fits}
use Rattle.tz_info.proofs.zone.time_zone.TimeZone.changes.Goals as goal

pub returns : goal.returns
returns c =
    let ff = c.ranges.from in let fu = c.ranges.until in
    let fa = c.second_before.type_inv in let fl = c.second_before-2.type_inv in
    simp fits
    (all_left
    _ _ _
    (rw (← c.self.view_is) c.self.invariant.valid) (rw (← c.self.view_is) c.self.invariant.limits)
    (simp fits at c.second_before.ensures) (simp fits at c.second_before-2.ensures))
