use Rattle.tz_info.proofs.{Fits.fits, SegmentEndLaws.maxima_more, Words.{arith, linear, suc, ◌+◌, ◌≡◌}}
use Rattle.tz_info.proofs.zone.made.segment_ends.maxima_of.Goals as goal

pub loop-place-preserved : goal.loop-place-preserved
loop-place-preserved c =
    let fl = c.later-latest.type_inv in
    let one : c.loop-place.place + 1 ≡ suc c.loop-place.place = omega arith in
    record {
      maxima = rw one (simp fits (maxima_more _ _ _ _ _ _ _ c.loop-place.invariant.maxima
          (grind (linear, fits)) (simp fits at c.push_reserved.ensures.items)));
      count = grind arith;
      room = grind arith;
    }
