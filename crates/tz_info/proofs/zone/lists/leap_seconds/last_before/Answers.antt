use Rattle.{std.proofs.lemmas.Int.clamps, tz_info.proofs.Words.{arith, ints}}
use Rattle.tz_info.proofs.zone.lists.leap_seconds.last_before.Goals as goal

pub returns : goal.returns
returns c = λ u most. (λ h. (omega (arith, ints, clamps), omega (arith, ints, clamps)), λ both. omega (arith, ints, clamps))
