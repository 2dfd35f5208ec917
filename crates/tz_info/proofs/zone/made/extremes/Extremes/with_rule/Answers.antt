use Rattle.tz_info.proofs.{Fits.fits, Words.{SFits, linear, w32}}
use Rattle.tz_info.proofs.zone.made.extremes.Extremes.with_rule.Goals as goal

pub returns-in-Alternate-clause-joined : goal.returns-in-Alternate-clause-joined
returns-in-Alternate-clause-joined c =
    let fs : SFits w32 c.offset-in-Alternate.result = grind linear in
    let fd : SFits w32 c.offset-in-Alternate-2.result = omega linear in
    rw c.in-Alternate.is (
      c.with-one.result,
      rw (c.offset-in-Alternate.ensures.value, c.std.ensures.value) at (simp fits at c.with-one.ensures),
      rw (c.offset-in-Alternate-2.ensures.value, c.dst.ensures.value) at (simp fits at c.with-in-Alternate.ensures),
    )
