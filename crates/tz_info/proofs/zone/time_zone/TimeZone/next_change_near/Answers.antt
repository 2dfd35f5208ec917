use Rattle.tz_info.proofs.{Fits.fits, Words.true, ZoneChanges.{farther_first, nearer_first}}
use Rattle.tz_info.proofs.zone.time_zone.TimeZone.next_change_near.Goals as goal

pub returns-in-Some : goal.returns-in-Some
returns-in-Some c =
    let fa = c.ranges.after in
    nearer_first _ _ true _ (rw (← c.self.view_is) c.self.invariant.valid) (simp fits at c.in-Some.ensures)

pub returns-in-None : goal.returns-in-None
returns-in-None c =
    let fa = c.ranges.after in
    farther_first _ _ true _ (rw (← c.self.view_is) c.self.invariant.valid) (simp fits at c.in-None.ensures) (simp fits at c.change_by_rule.ensures)
