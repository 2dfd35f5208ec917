use Rattle.tz_info.proofs.{Fits.fits, Words.{false, linear}, ZoneChanges.{farther_first, nearer_first}}
use Rattle.tz_info.proofs.zone.time_zone.TimeZone.previous_change_near.Goals as goal

pub returns-in-Some : goal.returns-in-Some
returns-in-Some c =
    let fa = c.ranges.before_or_at in
    nearer_first _ _ false _ (rw (← c.self.view_is) c.self.invariant.valid) (simp fits at c.in-Some.ensures)

pub returns-in-None : goal.returns-in-None
returns-in-None c =
    let fa = c.ranges.before_or_at in
    farther_first _ _ false _ (rw (← c.self.view_is) c.self.invariant.valid) (simp fits at c.in-None.ensures) (simp fits at c.nearest_in_table.ensures)

pub returns-then-has_begun : goal.returns-then-has_begun
returns-then-has_begun c = grind (linear, fits)
