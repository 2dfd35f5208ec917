use Rattle.tz_info.proofs.{ExtremeLaws.window_made, Fits.fits, ShownSecondLaws.all_within, Words.{SFits, linear, rules, w32}}
use Rattle.tz_info.proofs.zone.time_zone.TimeZone.seconds_around.Goals as goal

pub returns : goal.returns
returns c =
    let ff = c.ranges.from in let fu = c.ranges.until in
    let fg : SFits w32 c.self.inside.extremes.greatest = search rules in
    let fh : SFits w32 c.self.inside.extremes.least = search rules in
    let low = simp fits at c.second_showing.ensures.value in
    let high = simp fits at c.second_showing-2.ensures.value in
    let ug = c.second_showing.type_inv in
    let uh = c.second_showing-2.type_inv in
    simp fits (all_within _ _ _ _ _
    (rw (low, high) (window_made _
    _ _ _ _ c.requires.from c.requires.until fg fh
    (grind (linear, fits)) (rw (← c.self.view_is) c.self.invariant.extremes.least))))
