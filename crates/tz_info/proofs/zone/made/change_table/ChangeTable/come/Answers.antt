use Rattle.tz_info.proofs.{Fits.fits, Prefixes.last_taken, Words.{length-take, linear}}
use Rattle.tz_info.proofs.zone.made.change_table.ChangeTable.come.Goals as goal

pub returns-clause-come : goal.returns-clause-come
returns-clause-come c = grind (linear, fits, last_taken, length-take)
