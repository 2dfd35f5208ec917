use Rattle.gregorian.specs.{Date.{day_number}, Month.{days_of_months}, Year.{year_start}}
use Rattle.zoned_ffi.{proofs.Words.{arith, refl}, specs.Fields.{IsNoLocalOf}}
use Rattle.zoned_ffi.proofs.pins.fields.Goals as goal

pub returns-clause-leap_day : goal.returns-clause-leap_day
unfolding day_number year_start days_of_months
returns-clause-leap_day c = record {
  date_time = record { date = grind arith; time = grind arith };
  names = refl;
  weekday = refl;
  day_of_year = refl;
}

pub returns-clause-no_day : goal.returns-clause-no_day
returns-clause-no_day c = IsNoLocalOf.no_date_time (λ h. absurd (omega arith))

pub returns-clause-no_time : goal.returns-clause-no_time
returns-clause-no_time c = IsNoLocalOf.no_date_time (λ h. absurd (omega arith))
