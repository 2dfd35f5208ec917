use Rattle.std.proofs.Common.{rules}
use Rattle.naive_rrule.specs.RecurrenceSets.{IsRuleTime}
use Rattle.tests_pins.proofs.{Words.{arith, inl, ints, pos, refl}, Computed.{calendar}, RuleDates.{counts, dated}}
use Rattle.tests_pins.specs.Recurrences.{at_nine, days_of_january}
use Rattle.tests_pins.proofs.recurrence_sets.ends.Goals as goal

in_2000 : IsRuleTime days_of_january (at_nine (pos 1998) 1 1) (at_nine (pos 2000) 1 31)
unfolding calendar
in_2000 =
    let a = dated (pos 1998) 1 1 (search rules) in let b = dated (pos 2000) 1 31 (search rules) in let k = counts 1 760 (pos 10_227) in
    record { occasion = grind (arith, a, b, k); position = inl refl; from_start = omega (arith, ints); in_years = omega (arith, ints) }

in_9999 : IsRuleTime days_of_january (at_nine (pos 1998) 1 1) (at_nine (pos 9999) 1 31)
unfolding calendar
in_9999 =
    let a = dated (pos 1998) 1 1 (search rules) in let b = dated (pos 9999) 1 31 (search rules) in let k = counts 1 2_922_335 (pos 10_227) in
    record { occasion = grind (arith, a, b, k); position = inl refl; from_start = omega (arith, ints); in_years = omega (arith, ints) }

pub returns : goal.returns
unfolding calendar
returns c = record {
  last = λ last is. record { time = in_2000; within = omega (arith, ints, is) };
  later = λ last is h. let until = h.within in omega (arith, ints, is, until);
  without_end = record { time = in_9999; within = tt };
  year_10000 = λ h. let until = h.in_years in omega (arith, ints, until);
  before_start = λ h. let from = h.from_start in omega (arith, ints, from);
}
