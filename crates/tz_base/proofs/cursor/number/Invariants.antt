use Rattle.std.proofs.Common.{◌≡◌, ◌≤◌, drop}
use Rattle.tz_base.specs.Fronts.{value_from, AllDigits}
use Rattle.tz_base.proofs.cursor.number.Given as goal

abbrev pub invariant-loop-digit : goal.invariant-loop-digit
invariant-loop-digit l = record {
  value : value_from l.n (drop l.digit-index l.digits) ≡ value_from 0 l.digits;
  limit : l.n ≤ l.max;
  each : AllDigits (drop l.digit-index l.digits);
}
