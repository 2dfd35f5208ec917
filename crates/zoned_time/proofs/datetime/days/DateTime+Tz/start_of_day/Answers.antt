use Rattle.zoned_time.proofs.{Words.{day_of, home_law_of, midnight, zoned}, Homes.{at_or_after_home, in_day_home}}
use Rattle.zoned_time.proofs.datetime.days.DateTime+Tz.start_of_day.Goals as goal

pub returns : goal.returns
returns g c =
    let day = day_of c.date_of-date.result in let same = c.timezone-zone.ensures in (
      day,
      in_day_home {day = day} same.offsets c.date_of-date.ensures,
      at_or_after_home (g.Tz.TimeZone.law c.timezone-zone.result) (home_law_of g.Tz.TimeZone.meaning c.args.self.now) same (midnight day)
          (λ d. zoned d) c.start_of_day.result c.start_of_day.ensures,
    )
