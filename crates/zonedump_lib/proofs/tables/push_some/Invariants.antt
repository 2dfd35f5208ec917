use Rattle.zonedump_lib.proofs.CitedWords.{All, IsNearYears, change_lines, changes_left, length, string_bytes, ◌++◌, ◌-◌, ◌≡◌}
use Rattle.zonedump_lib.proofs.tables.push_some.Given as goal

abbrev pub invariant-loop-turn : goal.invariant-loop-turn
invariant-loop-turn l = record {
  near : All (λ c. IsNearYears c.at) (changes_left l.left);
  lines : string_bytes l.out ++ change_lines (changes_left l.left) ≡ string_bytes l.fn.out ++ change_lines (changes_left l.fn.left);
  count : length (changes_left l.left) ≡ length (changes_left l.fn.left) - l._turn;
}
