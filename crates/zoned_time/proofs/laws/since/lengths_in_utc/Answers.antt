use Rattle.zoned_time.proofs.{Words.{numbers}, CalendarLengths.{days_in_utc, months_in_utc}}
use Rattle.zoned_time.proofs.laws.since.lengths_in_utc.Goals as goal

pub returns-clause-months : goal.returns-clause-months
returns-clause-months g c = λ zone e t r n d utc real range h.
    months_in_utc (g.Tz.TimeZone.law zone).off utc e t r n d real (omega numbers, omega numbers) h

pub returns-clause-days : goal.returns-clause-days
returns-clause-days g c = λ zone e t r n d utc low plain range to h.
    days_in_utc (g.Tz.TimeZone.law zone).off utc e t r n d low plain range to h
