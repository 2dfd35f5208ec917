use Rattle.zonedump_lib.proofs.CitedWords.{leap_lines, string_bytes, take, ◌++◌, ◌≡◌}
use Rattle.zonedump_lib.proofs.tables.push_leap_seconds.Given as goal

abbrev pub invariant-loop-leap : goal.invariant-loop-leap
invariant-loop-leap l = string_bytes l.out ≡ string_bytes l.fn.out ++ leap_lines (take l.leap-index l.leaps)
