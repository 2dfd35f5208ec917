use Rattle.tz_info.proofs.Words.{AreExtremes, offsets_of, take}
use Rattle.tz_info.proofs.zone.made.extremes.extremes_of_types.Given as goal

abbrev pub invariant-loop-place : goal.invariant-loop-place
invariant-loop-place l = AreExtremes (offsets_of (take l.place l.types)) l.found
