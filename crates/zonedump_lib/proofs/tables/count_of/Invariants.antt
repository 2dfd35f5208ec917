use Rattle.zonedump_lib.proofs.CitedWords.{changes_left, length, ◌+◌, ◌≡◌}
use Rattle.zonedump_lib.proofs.tables.count_of.Given as goal

abbrev pub invariant-loop-count : goal.invariant-loop-count
invariant-loop-count l = length (changes_left l.fn.left) ≡ l.count + length (changes_left l.left)
