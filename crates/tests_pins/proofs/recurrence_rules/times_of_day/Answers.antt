use Rattle.std.proofs.Common.{rules}
use Rattle.tests_pins.proofs.{Words.{arith, pos}, Computed.{calendar}, RuleDates.{counts, dated}}
use Rattle.tests_pins.proofs.recurrence_rules.times_of_day.Goals as goal

pub returns : goal.returns
unfolding calendar
returns c = let b = dated (pos 1997) 9 2 (search rules) in record {
  at_10_20 = let k = counts 1 0 (pos 10_106) in grind (arith, b, k);
  at_10_30 = λ h. grind (arith, b, h);
  at_17 = λ h. grind (arith, b, h);
  second_after = λ h. grind (arith, b, h);
  hourly = let k = counts 3 1 (pos 242_553) in grind (arith, b, k);
  hour_after = λ h. grind (arith, b, h);
  minute_after = λ h. grind (arith, b, h);
  by_minutes = let k = counts 90 1 (pos 14_553_180) in grind (arith, b, k);
  other_hour = λ h. let next = dated (pos 1997) 9 3 (search rules) in grind (arith, b, next, h);
  not_by_seconds = λ h. grind (arith, b, h);
}
