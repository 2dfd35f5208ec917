use Rattle.tz_write.proofs.{FileWritten.ArePushed, Words.{IsEntry, leap_bytes, take}}
use Rattle.tz_write.proofs.file.contents.push_leap_seconds.Given as goal

abbrev pub invariant-loop-leap : goal.invariant-loop-leap
invariant-loop-leap l = ArePushed leap_bytes IsEntry l.initial.bytes.items l.bytes.items (take l.leap-index l.leaps)
