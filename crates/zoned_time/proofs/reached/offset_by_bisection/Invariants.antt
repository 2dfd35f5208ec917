use Rattle.zoned_time.proofs.Words.{HasPassed, IsWithinDay, pos, reading, unsigned_abs, ◌+ℤ◌, ◌-ℤ◌, ◌<ℤ◌}
use Rattle.zoned_time.proofs.reached.offset_by_bisection.Given as goal

abbrev pub invariant-loop-bracket : goal.invariant-loop-bracket
invariant-loop-bracket g l = record {
  some : l.bracket.passed <ℤ l.bracket.ahead;
  within : IsWithinDay l.bracket.passed;
  end : l.bracket.ahead <ℤ pos 86_401;
  passed : HasPassed (g.Tz.TimeZone.law l.zone).off ((reading l.utc).s +ℤ l.bracket.passed) (reading l.utc).s;
  ahead : HasPassed (g.Tz.TimeZone.law l.zone).off ((reading l.utc).s +ℤ l.bracket.ahead) (reading l.utc).s → ⊥;
}

abbrev pub decreases-loop-bracket : goal.decreases-loop-bracket
decreases-loop-bracket g l = unsigned_abs (l.bracket.ahead -ℤ l.bracket.passed)
