use Rattle.offset_core.specs.TimeDelta.{nanos_of}
use Rattle.zoned_time.proofs.{Words.{home_law_of, numbers, reading, wall_of, zoned}, CalendarLengths.{at_least_zero, is_length, negative, no_length, not_earlier_by}}
use Rattle.zoned_time.proofs.datetime.since.DateTime+Tz.calendar_since.Goals as goal

pub returns-in_err-from : goal.returns-in_err-from
returns-in_err-from g c =
    let earlier = c.args.earlier.now in let counted = c.months_and_days_since-months in
    rw c.from_residual.ensures (no_length (home_law_of g.Tz.TimeZone.meaning earlier).off (zoned earlier).utc (wall_of earlier) (zoned c.args.self.now).utc
    counted.result.0 counted.result.1 earlier.datetime.in_range.1 (not_earlier_by c.is_earlier.result (reading c.naive_utc.result) (reading c.naive_utc-2.result) (zoned c.args.self.now).utc
    (zoned earlier).utc c.is_earlier.ensures c.if-is_earlier.false c.naive_utc.ensures c.naive_utc-2.ensures) counted.ensures c.in_err-from.ensures)

pub returns-then-is_negative : goal.returns-then-is_negative
returns-then-is_negative g c =
    let earlier = c.args.earlier.now in let counted = c.months_and_days_since-months in let from = c.in_ok-from.from in
    negative (home_law_of g.Tz.TimeZone.meaning earlier).off (zoned earlier).utc (wall_of earlier) (zoned c.args.self.now).utc
    counted.result.0 counted.result.1 earlier.datetime.in_range.1 (not_earlier_by c.is_earlier.result (reading c.naive_utc.result) (reading c.naive_utc-2.result) (zoned c.args.self.now).utc
    (zoned earlier).utc c.is_earlier.ensures c.if-is_earlier.false c.naive_utc.ensures c.naive_utc-2.ensures) counted.ensures (zoned from).utc c.in_ok-from.ensures.0
    (λ more. grind numbers)

pub returns : goal.returns
returns g c =
    let earlier = c.args.earlier.now in let counted = c.months_and_days_since-months in let from = c.in_ok-from.from in
    is_length (home_law_of g.Tz.TimeZone.meaning earlier).off (zoned earlier).utc (wall_of earlier) (zoned c.args.self.now).utc
    counted.result.0 counted.result.1 earlier.datetime.in_range.1 (not_earlier_by c.is_earlier.result (reading c.naive_utc.result) (reading c.naive_utc-2.result) (zoned c.args.self.now).utc
    (zoned earlier).utc c.is_earlier.ensures c.if-is_earlier.false c.naive_utc.ensures c.naive_utc-2.ensures) counted.ensures (zoned from).utc
    c.signed_duration_since-time.result c.in_ok-from.ensures.0 from.in_range c.signed_duration_since-time.ensures
    (at_least_zero c.is_negative.result (nanos_of c.signed_duration_since-time.result) c.is_negative.ensures c.if-is_negative.false)
