use Rattle.zoned_time.proofs.{Words.{numbers, reading, seconds_of, shown, ◌∙◌}, CalendarLengths.{at_offset_is}}
use Rattle.zoned_time.proofs.time_zone.TimeZone.at_offset.Goals as goal

pub returns : goal.returns
returns g c =
    let instant = c.from_utc_datetime-instant.result in let told = g.met.Self.TimeZone.told instant.offset in
    at_offset_is (g.Self.TimeZone.law c.args.self.now) (reading c.args.local.now) (reading c.in_ok-utc.utc) (seconds_of c.args.offset)
    (shown instant.datetime instant.offset) c.in_ok-utc.ensures.1 c.in_ok-utc.ensures.0 c.from_utc_datetime-instant.ensures (told ∙ grind numbers)
