use Rattle.tz_info.proofs.{Fits.fits, TableLaws.begin_by, Words.linear}
use Rattle.tz_info.proofs.zone.time_zone.TimeZone.rule_begin.Goals as goal

pub returns : goal.returns
returns c = grind (linear, fits, begin_by)
