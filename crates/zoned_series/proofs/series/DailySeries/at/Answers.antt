use Rattle.std.proofs.Common.{◌≡◌, ap, subst, ◌∙◌, refl}
use Rattle.naive_base.specs.{NaiveDateTime.{reading}, Reading.{reading_at}}
use Rattle.zoned_time.specs.Choice.{IsUnresolved}
use Rattle.zoned_series.specs.{Series.{series_of}, Series.{reading_of, unresolved}}
use Rattle.zoned_series.proofs.series.DailySeries.at.Goals as goal

pub returns-in-Err : goal.returns-in-Err
returns-in-Err g c =
    let s = series_of c.args.self.now in
    let same : reading c.and_time.result ≡ reading_of s c.args.n =
    c.and_time.ensures.value ∙ ap (λ day. reading_at day s.second s.fraction) c.in-Some.ensures.1 in
    unresolved c.in-Err.cause c.in-Some.ensures.0
    (subst (λ r. IsUnresolved (g.Tz.TimeZone.law c.args.self.now.zone).off r.s s.choice c.in-Err.cause) same c.in-Err.ensures) refl

pub returns-in-Ok : goal.returns-in-Ok
returns-in-Ok g c = record { day = c.in-Some.ensures.0; resolved = rw (c.and_time.ensures.value, c.in-Some.ensures.1) at c.in-Ok.ensures }
