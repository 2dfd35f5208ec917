use Rattle.naive_base.proofs.Named.{number_below, week_start}
use Rattle.zoned_time.proofs.Words.{day_of, numbers, pos, weekday_number, ◌-ℤ◌}
use Rattle.zoned_time.proofs.zone_days.ZoneDays.start_of_week.Goals as goal

pub returns : goal.returns
returns g c =
    let day = day_of c.args.date in let first = day -ℤ pos c.days_since.result in let start = c.args.start in
    let on = week_start day first (weekday_number start) (number_below start) (rw (← c.weekday.ensures, ← c.days_since.ensures.value) (omega numbers)) in
    (first, record { on = on; not_after = omega numbers; within = omega numbers }, c.start_of_earlier_day.ensures)
