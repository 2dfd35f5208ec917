use Rattle.tz_info.proofs.{DifferenceLaws.{all_listed, listed_more}, Fits.fits, Words.{SFits, arith, ints, linear, rules, w64}}
use Rattle.tz_info.proofs.zone.time_zone.TimeZone.differences.Goals as goal

pub loop-at-preserved : goal.loop-at-preserved
loop-at-preserved c =
    let fu = c.ranges.until in
    let fe : SFits w64 c.pair_at-pair.result.until = search rules in
    let types = c.pair_at-pair.ensures.types in
    simp fits (listed_more _ _ _ _ _ _ _ _ _ _ (simp fits at c.loop-at.invariant) (simp fits at c.pair_at-pair.ensures.until) types.0 types.1
    (grind (linear, fits)))

pub returns : goal.returns
returns c =
    let ff = c.ranges.from in
    let fu = c.ranges.until in
    all_listed _ _ _ _ _ _ (simp fits at c.loop-at.invariant) (omega (arith, ints))
