use Rattle.tz_info.proofs.{Fits.fits, Words.{first_come, linear}}
use Rattle.tz_info.proofs.zone.lists.table.Table.passed.Goals as goal

pub returns-clause-passed : goal.returns-clause-passed
returns-clause-passed c =
    rw (← c.self.view_is) (first_come (λ t. t.unix_leap_time) _ _ _ (grind (linear, fits)))
