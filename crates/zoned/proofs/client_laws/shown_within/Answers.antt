use Rattle.zoned.proofs.{Words.{arith, ints}, Shown.{all_seconds, within_shown}}
use Rattle.zoned.proofs.client_laws.shown_within.Goals as goal

pub returns : goal.returns
returns g c = grind (arith, ints, within_shown, all_seconds)
