use Rattle.tz_write.proofs.Words.{flat_map, index_bytes, take, ◌++◌, ◌≡◌}
use Rattle.tz_write.proofs.file.contents.push_indexes.Given as goal

abbrev pub invariant-loop-place : goal.invariant-loop-place
invariant-loop-place l = l.bytes.items ≡ l.initial.bytes.items ++ flat_map index_bytes (take l.place l.zone.transitions)
