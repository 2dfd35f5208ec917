use Rattle.tz_info.proofs.{Fits.fits, Words.{SFits, ap, day_of, linear, pos, w64, ◌*ℤ◌, ◌+ℤ◌, ◌∙◌, ◌≡◌}}
use Rattle.tz_info.proofs.zone.time_zone.TimeZone.find_seconds_of_day.Goals as goal

pub returns : goal.returns
returns c =
    let is : c.secs_since_epoch-midnight.result ≡ day_of c.args.date *ℤ pos 86_400 +ℤ pos 0 =
    c.secs_since_epoch-midnight.ensures ∙ ap (λ r. r.s) c.and_time.ensures.value in
    let fn : SFits w64 (c.secs_since_epoch-midnight.result +ℤ pos 86_400) = omega linear in
    let same : c.secs_since_epoch-midnight.result ≡ pos 86_400 *ℤ day_of c.args.date = omega linear in grind (linear, fits)
