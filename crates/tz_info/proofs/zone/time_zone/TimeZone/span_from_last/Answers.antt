use Rattle.tz_info.proofs.{Fits.fits, SpanLaws.span_of_rule, Words.{SFits, rules, w64}}
use Rattle.tz_info.proofs.zone.time_zone.TimeZone.span_from_last.Goals as goal

pub returns : goal.returns
returns c =
    let fu = c.ranges.unix_time in
    let ff : SFits w64 c.in-Some-if_after.from = search rules in
    let fn : SFits w64 c.in-Some-next.until = search rules in
    let fw = c.rule_begin.type_inv in
    let beside = simp fits at c.in-Some-beside.ensures.found in
    simp fits (rw c.type_when.ensures (span_of_rule
    _ _ _ _ _ _ _ _
    (rw (← c.self.view_is) c.self.invariant.valid) (rw (← c.self.view_is) c.self.invariant.limits) fu c.in-Some.ensures
    c.rule_begin.ensures.begin beside.in_force beside.previous (simp fits at c.in-Some-if_after.ensures) (rw c.in-Some-next.is at beside.next)))
