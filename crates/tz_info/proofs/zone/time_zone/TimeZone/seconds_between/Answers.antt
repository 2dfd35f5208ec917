use Rattle.tz_info.proofs.Fits.{fits}
use Rattle.tz_info.proofs.zone.time_zone.TimeZone.seconds_between.Goals as goal

pub returns : goal.returns
returns c =
    let ff = c.ranges.from in
    let fu = c.ranges.until in
    rw (c.copied.ensures, c.copied-2.ensures)
    (record { first = simp fits at c.in_ok-first.ensures; last = simp fits at c.in_ok-last.ensures })
