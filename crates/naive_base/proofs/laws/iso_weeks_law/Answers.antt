use Rattle.naive_base.proofs.IsoWeeks.{first_week, one_week}
use Rattle.naive_base.proofs.laws.iso_weeks_law.Goals as goal

pub returns : goal.returns
returns c = record { first = first_week; once = one_week }
