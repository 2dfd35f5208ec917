use Rattle.zoned_time.proofs.{Words.{IsZoneSecond, SFits, numbers, sym, to_z-of_z, w32, w64, ◌-ℤ◌, ◌∙◌, ◌≡◌}, Days.{fixed_shown}}
use Rattle.zoned_time.proofs.fixed_days.fixed_second.Goals as goal

pub returns : goal.returns
returns g c =
    let local = c.args.local.now in let here : IsZoneSecond local.secs = (omega numbers, omega numbers) in
    let within = g.met.Tz.TimeZone.within_day c.args.zone.now local.secs here in
    let ahead : c.local_minus_utc.result ≡ (g.Tz.TimeZone.law c.args.zone.now).off local.secs =
    c.local_minus_utc.ensures ∙ c.fix-offset.ensures ∙ sym (g.met.Tz.TimeZone.told c.offset_from_utc_datetime.result)
    ∙ c.offset_from_utc_datetime.ensures.there in
    let fm : SFits w64 c.secs_since_epoch.result = omega numbers in
    let fl : SFits w32 c.local_minus_utc.result = omega numbers in
    let fk : SFits w64 c.local_minus_utc.result = omega numbers in
    let fd : SFits w64 (c.secs_since_epoch.result -ℤ c.local_minus_utc.result) = omega numbers in
    let inside : IsZoneSecond (c.secs_since_epoch.result -ℤ c.local_minus_utc.result) =
    (omega numbers, omega numbers) in
    let both =
    fixed_shown (g.Tz.TimeZone.law c.args.zone.now) c.requires local.secs (c.secs_since_epoch.result -ℤ c.local_minus_utc.result) here inside
    (omega numbers) in
    record { shown = simp to_z-of_z both.0; first = simp to_z-of_z both.1 }
