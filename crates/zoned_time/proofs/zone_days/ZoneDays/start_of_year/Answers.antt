use Rattle.zoned_time.proofs.Words.{day_of, day_of_year_is, first_day_of_year, numbers, pos, ◌-ℤ◌, ◌≡◌}
use Rattle.zoned_time.proofs.zone_days.ZoneDays.start_of_year.Goals as goal

pub returns : goal.returns
returns g c =
    let day = day_of c.args.date in let place = (day_of_year_is day).0 in
    let first : day -ℤ pos c.ordinal0.result ≡ first_day_of_year day = omega numbers in
    rw first at c.start_of_earlier_day.ensures
