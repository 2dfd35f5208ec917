use Rattle.tz_info.proofs.{Fits.fits, SegmentEndLaws.first_of_made, Words.{SFits, linear, refl, rules, slice_get_read, w64}}
use Rattle.tz_info.proofs.zone.ask.segment_search.first_of.Goals as goal

pub returns-clause-first : goal.returns-clause-first
returns-clause-first c =
    let fl = c.ranges.local in
    let fm = c.later.type_inv in
    let fb : SFits w64 c.begin_of-index.result.1 = search rules in
    let fs = c.second_showing-shown.type_inv in
    let fo = c.offset.type_inv in
    let b = c.begin_of-index.ensures in
    simp fits (first_of_made _ _ _ _ _ _ _ _ _ b.index (slice_get_read _ _ _ _ refl b.below c.index-types-index.is) c.offset.ensures.bound
    b.begin (grind (linear, fits)) (simp fits at c.later.ensures))
