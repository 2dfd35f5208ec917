use Rattle.offset_core.specs.TimeDelta.{nanos_of}
use Rattle.zoned_time.proofs.{Words.{home_law_of, wall_of, zoned}, CalendarLengths.{sum_of}}
use Rattle.zoned_time.proofs.datetime.since.DateTime+Tz.checked_add_calendar.Goals as goal

pub returns-in_err-moved_by : goal.returns-in_err-moved_by
returns-in_err-moved_by g c = rw c.from_residual.ensures (λ r moved range to. c.in_err-moved_by.ensures.none r moved range)

pub returns : goal.returns
returns g c =
    let from = c.in_ok-moved_by.field-0 in let length = c.args.length in
    sum_of (home_law_of g.Tz.TimeZone.meaning from) (home_law_of g.Tz.TimeZone.meaning c.args.self.now) c.in_ok-moved_by.ensures.1 (zoned c.args.self.now).utc
    (wall_of c.args.self.now) (zoned from).utc length.months length.days (nanos_of length.time) (λ d. zoned d) c.checked_add_signed.result
    c.in_ok-moved_by.ensures.0 from.in_range c.checked_add_signed.ensures
