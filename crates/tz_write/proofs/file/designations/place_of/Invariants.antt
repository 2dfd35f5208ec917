use Rattle.tz_write.proofs.Words.{drop, place_of, ◌+◌, ◌≡◌}
use Rattle.tz_write.proofs.file.designations.place_of.Given as goal

abbrev pub invariant-loop-place : goal.invariant-loop-place
invariant-loop-place l = place_of l.text l.designations ≡ l.place + place_of l.text (drop l.place l.designations)
