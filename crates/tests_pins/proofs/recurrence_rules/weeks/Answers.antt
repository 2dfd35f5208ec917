use Rattle.std.proofs.Common.{rules}
use Rattle.naive_base.specs.declared.weekday.Weekday.TheVariants.{Mon, Sun, Tue}
use Rattle.tests_pins.proofs.{Words.{[], arith, pos, refl, ◌∷◌}, Computed.{calendar}, RuleDates.{counts, dated, entry_at}}
use Rattle.tests_pins.specs.Recurrences.{every}
use Rattle.tests_pins.proofs.recurrence_rules.weeks.Goals as goal

pub returns : goal.returns
unfolding calendar
returns c = record {
  week_20 =
      let a = dated (pos 1997) 5 12 (search rules) in let b = dated (pos 1998) 5 11 (search rules) in let thursday = dated (pos 1998) 5 14 (search rules) in
      let k = counts 1 1 (pos 1997) in
      let w = entry_at (every Mon ∷ []) 0 (every Mon) 1 18 33 (omega arith) refl (grind arith) in
      grind (arith, a, b, thursday, k, w);
  week_21 = λ h. let b = dated (pos 1998) 5 18 (search rules) in let thursday = dated (pos 1998) 5 21 (search rules) in grind (arith, b, thursday, h);
  thursday = refl;
  wednesday = refl;
  from_monday =
      let a = dated (pos 1997) 8 5 (search rules) in let b = dated (pos 1997) 8 10 (search rules) in
      let k = counts 2 0 (pos 1440) in
      let w = entry_at (every Tue ∷ every Sun ∷ []) 1 (every Sun) 0 1 3 (omega arith) refl (grind arith) in
      grind (arith, a, b, k, w);
  not_from_sunday = λ h. let a = dated (pos 1997) 8 5 (search rules) in let b = dated (pos 1997) 8 17 (search rules) in grind (arith, a, b, h);
  from_sunday =
      let a = dated (pos 1997) 8 5 (search rules) in let b = dated (pos 1997) 8 17 (search rules) in
      let k = counts 2 1 (pos 1440) in
      let w = entry_at (every Tue ∷ every Sun ∷ []) 1 (every Sun) 0 2 2 (omega arith) refl (grind arith) in
      grind (arith, a, b, k, w);
  not_from_monday = λ h. let a = dated (pos 1997) 8 5 (search rules) in let b = dated (pos 1997) 8 10 (search rules) in grind (arith, a, b, h);
}
