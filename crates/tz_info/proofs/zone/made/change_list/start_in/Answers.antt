use Rattle.tz_info.proofs.{EntryLaws.never_refused, Fits.fits, Words.linear}
use Rattle.tz_info.proofs.zone.made.change_list.start_in.Goals as goal

pub returns-then-start : goal.returns-then-start
returns-then-start c = λ u y f l. let a = c.first_second-start.ensures.reached u y in grind (linear, fits)

pub returns-then-has_leap_time : goal.returns-then-has_leap_time
returns-then-has_leap_time c = grind (linear, fits)

pub returns-else-has_leap_time : goal.returns-else-has_leap_time
returns-else-has_leap_time c = never_refused _ _ c.first_second-start.result (grind (linear, fits)) c.entries-entries.ensures.valid (grind (linear, fits))
