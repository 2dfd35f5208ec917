use Rattle.std.proofs.Common.{rules}
use Rattle.naive_base.specs.declared.weekday.Weekday.TheVariants.{Fri}
use Rattle.tests_pins.proofs.{Words.{[], arith, pos, refl, ◌∷◌}, Computed.{calendar}, RuleDates.{counts, dated, entry_at}}
use Rattle.tests_pins.specs.Recurrences.{every}
use Rattle.tests_pins.proofs.recurrence_rules.dates_of_the_start.Goals as goal

pub returns : goal.returns
unfolding calendar
returns c = record {
  yearly =
      let a = dated (pos 1997) 11 2 (search rules) in let b = dated (pos 1998) 11 2 (search rules) in
      let k = counts 1 1 (pos 1997) in grind (arith, a, b, k);
  not_october = λ h. let a = dated (pos 1997) 11 2 (search rules) in let b = dated (pos 1998) 10 2 (search rules) in grind (arith, a, b, h);
  in_july =
      let a = dated (pos 1997) 6 10 (search rules) in let b = dated (pos 1998) 7 10 (search rules) in
      let k = counts 1 1 (pos 1997) in grind (arith, a, b, k);
  other_day = λ h. let a = dated (pos 1997) 6 10 (search rules) in let b = dated (pos 1998) 7 11 (search rules) in grind (arith, a, b, h);
  in_august = λ h. let a = dated (pos 1997) 6 10 (search rules) in let b = dated (pos 1998) 8 10 (search rules) in grind (arith, a, b, h);
  weekly =
      let a = dated (pos 1997) 9 2 (search rules) in let b = dated (pos 1997) 9 9 (search rules) in
      let k = counts 1 1 (pos 1444) in grind (arith, a, b, k);
  other_weekday = λ h. let a = dated (pos 1997) 9 2 (search rules) in let b = dated (pos 1997) 9 10 (search rules) in grind (arith, a, b, h);
  friday_the_13th =
      let a = dated (pos 1997) 9 2 (search rules) in let b = dated (pos 1998) 2 13 (search rules) in
      let k = counts 1 5 (pos 23_972) in
      let w = entry_at (every Fri ∷ []) 0 (every Fri) 5 1 2 (omega arith) refl (grind arith) in
      grind (arith, a, b, k, w);
  friday_the_6th = λ h. let a = dated (pos 1997) 9 2 (search rules) in let b = dated (pos 1998) 2 6 (search rules) in grind (arith, a, b, h);
  tuesday_the_13th = λ h. let a = dated (pos 1997) 9 2 (search rules) in let b = dated (pos 1998) 1 13 (search rules) in grind (arith, a, b, h);
}
