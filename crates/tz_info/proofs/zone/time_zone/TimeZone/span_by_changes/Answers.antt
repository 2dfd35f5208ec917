use Rattle.tz_info.proofs.{Fits.fits, SpanLaws.span_between}
use Rattle.tz_info.proofs.zone.time_zone.TimeZone.span_by_changes.Goals as goal

pub returns : goal.returns
returns c =
    let fu = c.ranges.unix_time in
    span_between _ _ _
    _ _ _ _
    (rw (← c.self.view_is) c.self.invariant.valid) (rw (← c.self.view_is) c.self.invariant.limits) fu (simp fits at c.in_ok-local_time_type.ensures)
    (simp fits at c.previous_held_change.ensures) (simp fits at c.next_held_change.ensures) c.span_begin.ensures c.span_end.ensures
