use Rattle.tz_write.proofs.Words.{All, HasIndex, take}
use Rattle.tz_write.proofs.file.contents.have_indexes.Given as goal

abbrev pub invariant-loop-place : goal.invariant-loop-place
invariant-loop-place l = All HasIndex (take l.place l.zone.transitions)
