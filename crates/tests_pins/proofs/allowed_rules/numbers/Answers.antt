use Rattle.std.proofs.{Common.{rules}, lemmas.List.Elements.{All-cons, All-nil}}
use Rattle.naive_base.specs.declared.weekday.Weekday.TheVariants.{Mon}
use Rattle.tests_pins.specs.Recurrences.{nth}
use Rattle.tests_pins.proofs.Words.{arith, ints, neg_ℤ, pos}
use Rattle.tests_pins.proofs.allowed_rules.numbers.Goals as goal

pub returns : goal.returns
returns c = record {
  widest = search (rules, All-nil, All-cons);
  month = λ r has h. let n = rw has.2 at (h.month has.0 13 has.1) in omega (arith, n);
  week = λ r has h. let n = rw has.2 at (h.week_number has.0 (neg_ℤ (pos 54)) has.1) in omega (arith, ints, n);
  year_day = λ r has h. let n = rw has.2 at (h.year_day has.0 (pos 367) has.1) in omega (arith, ints, n);
  month_day = λ r has h. let n = rw has.2 at (h.month_day has.0 (pos 0) has.1) in omega (arith, ints, n);
  weekday = λ r has h. let n = rw has.2 at (h.day has.0 (nth (pos 54) Mon) has.1) in omega (arith, ints, n);
  hour = λ r has h. let n = rw has.2 at (h.hour has.0 24 has.1) in omega (arith, n);
  minute = λ r has h. let n = rw has.2 at (h.minute has.0 60 has.1) in omega (arith, n);
  second = λ r has h. let n = rw has.2 at (h.at_second has.0 61 has.1) in omega (arith, n);
  position = λ r has h. let n = rw has.2 at (h.position has.0 (pos 0) has.1) in omega (arith, ints, n);
}
