use Rattle.tz_info.proofs.{Fits.fits, LeapStarts.{by_saturated, passed_here, since_epoch}, Prefixes.any_leap, Words.linear}
use Rattle.tz_info.proofs.zone.lists.leap_time.is_passed.Goals as goal

pub returns : goal.returns
returns c =
    let early = since_epoch _ _ any_leap c.requires.leaps c.requires.place in
    let here = passed_here _ c.args.unix_time _ _ any_leap c.requires.leaps c.requires.place c.correction_after-correction.ensures in
    grind (linear, fits, by_saturated)
