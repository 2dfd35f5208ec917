use Rattle.zonedump_lib.proofs.CitedWords.{difference_lines, string_bytes, take, ◌++◌, ◌≡◌}
use Rattle.zonedump_lib.proofs.differences.push_differences.Given as goal

abbrev pub invariant-loop-one : goal.invariant-loop-one
invariant-loop-one l = string_bytes l.out ≡ string_bytes l.fn.out ++ difference_lines (take l.one-index l.found)
