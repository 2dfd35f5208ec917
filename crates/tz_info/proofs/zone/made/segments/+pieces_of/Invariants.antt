use Rattle.tz_info.proofs.Words.{◌-◌}
use Rattle.tz_info.proofs.zone.made.segments.+pieces_of.Given as goal

abbrev pub decreases-pieces_of : goal.decreases-pieces_of
decreases-pieces_of l = l.high - l.low
