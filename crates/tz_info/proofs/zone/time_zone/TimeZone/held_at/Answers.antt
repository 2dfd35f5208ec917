use Rattle.tz_info.proofs.{Fits.fits, Words.{arith, ints}}
use Rattle.tz_info.proofs.zone.time_zone.TimeZone.held_at.Goals as goal

pub returns : goal.returns
returns c = λ u low high.
    let ff = c.start_by.type_inv in
    let fe = c.end_by.type_inv in
    let at = c.in-Ok.ensures in
    let since = (c.start_by.ensures u).0 (simp fits at low) in
    at.span.each u (record { fits = omega (arith, ints); since = since.1; until = ((c.end_by.ensures u).0 (simp fits at high)).1 })
