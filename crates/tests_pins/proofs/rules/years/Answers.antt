use Rattle.tests_pins.proofs.Words.{IsYearOf, arith, ints, neg_ℤ, one_year, pos, year_start}
use Rattle.tests_pins.proofs.rules.years.Goals as goal

before_first : IsYearOf (neg_ℤ (pos 67_768_100_504_812_801)) (neg_ℤ (pos 2_147_483_647))
unfolding year_start
before_first = (omega arith, omega arith)

after_last : IsYearOf (pos 67_767_976_170_460_800) (pos 2_147_483_646)
unfolding year_start
after_last = (omega arith, omega arith)

pub returns : goal.returns
unfolding year_start
returns c = record {
  first = (omega arith, omega arith);
  in_first = (omega arith, omega arith);
  too_early = λ year lies inside. let same = one_year _ year (neg_ℤ (pos 2_147_483_647)) lies before_first in absurd (omega (arith, ints));
  last = (omega arith, omega arith);
  in_last = (omega arith, omega arith);
  too_late = λ year lies inside. let same = one_year _ year (pos 2_147_483_646) lies after_last in absurd (omega (arith, ints));
}
