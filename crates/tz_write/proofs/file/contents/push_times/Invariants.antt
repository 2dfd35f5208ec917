use Rattle.tz_write.proofs.{FileWritten.ArePushed, Words.{HasTimeOf64Bits, take, time_bytes}}
use Rattle.tz_write.proofs.file.contents.push_times.Given as goal

abbrev pub invariant-loop-place : goal.invariant-loop-place
invariant-loop-place l = ArePushed time_bytes HasTimeOf64Bits l.initial.bytes.items l.bytes.items (take l.place l.zone.transitions)
