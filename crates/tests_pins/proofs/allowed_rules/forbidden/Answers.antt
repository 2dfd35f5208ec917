use Rattle.naive_base.specs.declared.weekday.Weekday.TheVariants.{Fri, Mon}
use Rattle.tests_pins.specs.Recurrences.{nth}
use Rattle.tests_pins.proofs.Words.{arith, inl, inr, ints, pos}
use Rattle.tests_pins.proofs.allowed_rules.forbidden.Goals as goal

pub returns-clause-nth : goal.returns-clause-nth
returns-clause-nth c h = elim h [
  | inl all ↦ let n = all 0 (nth (pos 1) Fri) (omega arith) in omega (arith, ints, n)
  | inr other ↦ grind (arith, other)
]

pub returns-clause-nth_in_week : goal.returns-clause-nth_in_week
returns-clause-nth_in_week c h = elim h [
  | inl all ↦ let n = all 0 (nth (pos 1) Mon) (omega arith) in omega (arith, ints, n)
  | inr other ↦ grind (arith, other)
]
