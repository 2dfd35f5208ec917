use Rattle.tz_info.proofs.{Fits.fits, OffsetChanges.{found_back, goes_back}, Words.{SFits, arith, ints, linear, rules, w64}}
use Rattle.tz_info.proofs.zone.time_zone.TimeZone.previous_offset_change.Goals as goal

pub returns-else-keeps_offset : goal.returns-else-keeps_offset
returns-else-keeps_offset c =
    let fa = c.ranges.before_or_at in
    let (order, kept) = simp fits at c.changes.invariant in
    rw c.copied.ensures (found_back _ _ _ order kept _ c.in_ok-change.ensures
    (grind (linear, fits)))

pub changes-preserved : goal.changes-preserved
changes-preserved c =
    let fa = c.ranges.before_or_at in
    let fc : SFits w64 c.in_ok-change.change.at = search rules in
    let fb : SFits w64 _ = c.in_ok-change.ensures.is.fits_before in
    let (order, kept) = simp fits at c.changes.invariant in
    let earlier = c.in_ok-change.ensures.inside in
    simp fits (
      omega (arith, ints),
      goes_back _ _ _ order kept _ c.in_ok-change.ensures
          (c.keeps_offset.ensures.0 c.if-keeps_offset.true),
    )
