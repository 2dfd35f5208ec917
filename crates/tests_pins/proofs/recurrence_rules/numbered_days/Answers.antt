use Rattle.std.proofs.Common.{rules}
use Rattle.tests_pins.proofs.{Words.{arith, pos}, Computed.{calendar}, RuleDates.{counts, dated}}
use Rattle.tests_pins.proofs.recurrence_rules.numbered_days.Goals as goal

pub returns : goal.returns
unfolding calendar
returns c = record {
  third_to_the_last =
      let a = dated (pos 1997) 9 28 (search rules) in let b = dated (pos 1997) 10 29 (search rules) in
      let k = counts 1 1 (pos 23_972) in grind (arith, a, b, k);
  day_before = λ h. let a = dated (pos 1997) 9 28 (search rules) in let b = dated (pos 1997) 10 28 (search rules) in grind (arith, a, b, h);
  not_third = λ h. let a = dated (pos 1997) 9 28 (search rules) in let b = dated (pos 1997) 10 3 (search rules) in grind (arith, a, b, h);
  day_100 =
      let a = dated (pos 1997) 1 1 (search rules) in let b = dated (pos 2000) 4 9 (search rules) in
      let k = counts 3 1 (pos 1997) in grind (arith, a, b, k);
  day_101 = λ h. let a = dated (pos 1997) 1 1 (search rules) in let b = dated (pos 2000) 4 10 (search rules) in grind (arith, a, b, h);
  next_year = λ h. let a = dated (pos 1997) 1 1 (search rules) in let b = dated (pos 1998) 4 10 (search rules) in grind (arith, a, b, h);
  first_of_march = let b = dated (pos 1997) 3 1 (search rules) in grind (arith, b);
  leap_day = λ h. let b = dated (pos 2000) 2 29 (search rules) in grind (arith, b, h);
}
