use Rattle.tz_info.proofs.{Fits.fits, LeapOrder.before_found, Prefixes.any_leap, Words.linear}
use Rattle.tz_info.proofs.zone.lists.leap_time.correction_before.Goals as goal

pub returns : goal.returns
returns c =
    let b = c.entries_before.ensures in
    let found = before_found _ any_leap c.requires c.entries_before.result c.args.leap_time c.correction_after.result in grind (linear, fits)
