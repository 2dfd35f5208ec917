use Rattle.tz_info.proofs.{AskedYears.never_at_all, Words.to_z-of_z}
use Rattle.tz_info.proofs.rule.alternate.AlternateTime.moment_beyond.Goals as goal

pub returns-then-never_changes-clause-nearest : goal.returns-then-never_changes-clause-nearest
returns-then-never_changes-clause-nearest c = λ d is ahead. never_at_all _ d (c.never_changes.ensures c.if-never_changes.true) is

pub nearest_beyond-requires-clause-none : goal.nearest_beyond-requires-clause-none
nearest_beyond-requires-clause-none c =
    let fs = c.ranges.second in
    let ff = c.ranges.first in
    simp to_z-of_z c.requires.none
