use Rattle.std.proofs.lemmas.List.{map-append}
use Rattle.tz_info.proofs.{ExtremeLaws.joined, Fits.fits, Words.{add-one, linear, take-suc}}
use Rattle.tz_info.proofs.zone.made.extremes.extremes_of_types.Goals as goal

pub loop-place-preserved : goal.loop-place-preserved
loop-place-preserved c =
    rw (add-one, take-suc c.args.types.now c.loop-place.place c.index-types-place.result c.loop-place-test.true, map-append)
    (joined _ _ _ _ c.loop-place.invariant (grind (linear, fits)))
