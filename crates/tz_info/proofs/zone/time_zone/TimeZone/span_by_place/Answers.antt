use Rattle.tz_info.proofs.{EntryChanges.span_between, Fits.fits, Words.{SFits, arith, rules, w64}}
use Rattle.tz_info.proofs.zone.time_zone.TimeZone.span_by_place.Goals as goal

pub returns : goal.returns
returns c =
    let fu = c.ranges.unix_time in
    let low : SFits w64 c.in-Some.between.from = search rules in
    let high : SFits w64 c.in-Some.between.until = search rules in
    simp fits (span_between _ _ _ _ _ c.change_table-changes.ensures.valid c.change_table-changes.ensures.list (simp fits at c.in-Some.ensures.between)
    (grind arith) fu low high c.listed.ensures)
