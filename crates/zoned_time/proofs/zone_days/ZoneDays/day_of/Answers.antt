use Rattle.zoned_time.proofs.{Words.{ap, day_of, floor_div, sym, zoned, ℤ, ◌+ℤ◌, ◌∙◌, ◌≡◌}, Days.{day_of_told}}
use Rattle.zoned_time.proofs.zone_days.ZoneDays.day_of.Goals as goal

pub returns : goal.returns
returns g c =
    let s = (zoned c.args.instant.now).utc.s in let local = zoned c.with_timezone-local.result in
    let at = c.with_timezone-local.ensures in let utc = ap (λ r. r.s) at.utc in
    let ahead = sym (g.met.Self.TimeZone.told local.offset) ∙ at.offset.there in
    let same : day_of c.date_naive.result ≡ floor_div (s +ℤ (g.Self.TimeZone.law c.args.self.now).off s) 86_400 =
    rw (← utc) (c.date_naive.ensures ∙ ap (λ (k : ℤ). floor_div (local.utc.s +ℤ k) 86_400) ahead) in
    day_of_told (g.Self.TimeZone.law c.args.self.now) (λ d. zoned d.first) (λ d. zoned d.last) s (day_of c.date_naive.result) c.day.result
    c.args.instant.now.in_range same c.day.ensures
