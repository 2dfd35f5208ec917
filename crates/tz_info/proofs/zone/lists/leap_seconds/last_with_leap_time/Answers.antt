use Rattle.tz_info.proofs.{
  Fits.fits,
  LeapOrder.threshold_at,
  LeapStarts.{last_with_leap_time, refused_more},
  Prefixes.{any_leap, last_taken},
  Words.{SFits, add-one, get_or, linear, mapped_at, rules, w32},
}
use Rattle.tz_info.proofs.zone.lists.leap_seconds.last_with_leap_time.Goals as goal

pub loop-entry-preserved : goal.loop-entry-preserved
loop-entry-preserved c =
    let fc : SFits w32 (get_or c.args.entries.now c.loop-entry.entry-index any_leap).correction = search rules in
    let fb = c.last_before.type_inv in
    let fm = c.min-last.type_inv in
    simp fits (record {
      refused = refused_more _ _ _ _ _ c.loop-entry.invariant.refused
          (λ u most. let last = c.last_before.ensures u most in grind (linear, fits, threshold_at, mapped_at)) (simp fits at c.min-last.ensures.value);
      before = grind (linear, add-one, last_taken);
    })

pub returns : goal.returns
returns c = grind (linear, fits, last_with_leap_time)
