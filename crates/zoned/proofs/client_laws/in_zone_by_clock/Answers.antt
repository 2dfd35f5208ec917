use Rattle.zoned.proofs.{Words.{arith, ints, relocal_shown}, Shown.{each_seen}}
use Rattle.zoned.proofs.client_laws.in_zone_by_clock.Goals as goal

pub returns : goal.returns
returns g c = grind (arith, ints, each_seen, relocal_shown)
