use Rattle.tz_write.proofs.Words.{drop, placed_otherwise, ◌≡◌}
use Rattle.tz_write.proofs.file.designations.laid_otherwise.Given as goal

abbrev pub invariant-loop-place : goal.invariant-loop-place
invariant-loop-place l = placed_otherwise l.types l.in_order ≡ placed_otherwise l.types (drop l.place l.in_order)
