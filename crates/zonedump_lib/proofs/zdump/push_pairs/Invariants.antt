use Rattle.zonedump_lib.proofs.CitedWords.{flat_map, pair_lines, string_bytes, take, ◌++◌, ◌≡◌}
use Rattle.zonedump_lib.proofs.zdump.push_pairs.Given as goal

abbrev pub invariant-loop-change : goal.invariant-loop-change
invariant-loop-change l = string_bytes l.out ≡ string_bytes l.fn.out ++ flat_map (pair_lines l.name) (take l.change-index l.changes)
