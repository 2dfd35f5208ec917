use Rattle.naive_base.proofs.{Words.{arith, floors}, Ranges.{days_in_range, inner_days, inner_years, wide_year, years_in_range}}
use Rattle.naive_base.proofs.laws.range_law.Goals as goal

pub returns : goal.returns
returns c = record {
  days = λ day. (years_in_range day, days_in_range day);
  seconds = λ s. grind (arith, floors);
  inner_days = λ day. (inner_years day, inner_days day);
  inner_seconds = λ s. grind (arith, floors);
  wide_days = wide_year;
  wide_seconds = λ s. grind (arith, floors);
}
