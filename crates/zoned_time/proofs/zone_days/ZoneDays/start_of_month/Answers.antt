use Rattle.zoned_time.proofs.Words.{date_is, day_of, day_of_month, first_of_month, month_of, number_at, numbers, pos, year_of, ◌-ℤ◌, ◌≡◌}
use Rattle.zoned_time.proofs.zone_days.ZoneDays.start_of_month.Goals as goal

pub returns : goal.returns
returns g c =
    let day = day_of c.args.date in let date = date_is day in let place = number_at (year_of day) (month_of day) (day_of_month day) date.0.2 in
    let first : day -ℤ pos c.day0.result ≡ first_of_month day = omega numbers in
    rw first at c.start_of_earlier_day.ensures
