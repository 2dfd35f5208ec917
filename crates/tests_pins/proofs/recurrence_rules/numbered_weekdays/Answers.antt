use Rattle.std.proofs.Common.{rules}
use Rattle.naive_base.specs.declared.weekday.Weekday.TheVariants.{Fri, Mon, Sun}
use Rattle.tests_pins.proofs.{Words.{[], arith, neg_ℤ, pos, refl, ◌∷◌}, Computed.{calendar}, RuleDates.{counts, dated, entry_at}}
use Rattle.tests_pins.specs.Recurrences.{nth}
use Rattle.tests_pins.proofs.recurrence_rules.numbered_weekdays.Goals as goal

pub returns : goal.returns
unfolding calendar
returns c = record {
  first_friday =
      let a = dated (pos 1997) 9 5 (search rules) in let b = dated (pos 1997) 10 3 (search rules) in
      let k = counts 1 1 (pos 23_972) in
      let w = entry_at (nth (pos 1) Fri ∷ []) 0 (nth (pos 1) Fri) 5 0 4 (omega arith) refl (grind arith) in
      grind (arith, a, b, k, w);
  second_friday = λ h. let a = dated (pos 1997) 9 5 (search rules) in let b = dated (pos 1997) 10 10 (search rules) in grind (arith, a, b, h);
  from_the_end =
      let a = dated (pos 1997) 9 22 (search rules) in let b = dated (pos 1997) 10 20 (search rules) in
      let k = counts 1 1 (pos 23_972) in
      let w = entry_at (nth (neg_ℤ (pos 2)) Mon ∷ []) 0 (nth (neg_ℤ (pos 2)) Mon) 1 2 1 (omega arith) refl (grind arith) in
      grind (arith, a, b, k, w);
  not_from_the_front = λ h. let a = dated (pos 1997) 9 22 (search rules) in let b = dated (pos 1997) 10 13 (search rules) in grind (arith, a, b, h);
  in_the_year =
      let a = dated (pos 1997) 5 19 (search rules) in let b = dated (pos 1998) 5 18 (search rules) in
      let k = counts 1 1 (pos 1997) in
      let w = entry_at (nth (pos 20) Mon ∷ []) 0 (nth (pos 20) Mon) 1 19 32 (omega arith) refl (grind arith) in
      grind (arith, a, b, k, w);
  not_before = λ h. let a = dated (pos 1997) 5 19 (search rules) in let b = dated (pos 1998) 5 11 (search rules) in grind (arith, a, b, h);
  in_the_month =
      let a = dated (pos 1967) 10 29 (search rules) in let b = dated (pos 1968) 10 27 (search rules) in
      let k = counts 1 1 (pos 1967) in
      let w = entry_at (nth (neg_ℤ (pos 1)) Sun ∷ []) 0 (nth (neg_ℤ (pos 1)) Sun) 0 3 0 (omega arith) refl (grind arith) in
      grind (arith, a, b, k, w);
}
