-- Steps of the local clock, such as days, weeks and hours: the local times at which they begin.
use Rattle.std.specs.Prelude.{◌≡◌, ⊤, ℕ, ◌%◌, ℤ}
use Rattle.gregorian.specs.DateOf.{day_of_month, day_of_year}
use Rattle.naive_base.specs.Weekday.{weekday_number, weekday_of}
use Rattle.naive_plans.specs.{DayPlans.{IsPlannedOnItsDay}, declared.clock_step.ClockStep.{ClockStep, TheVariants.{Day, Week, Month, Year, Part}}}

-- a step begins on the day
abbrev pub BeginsOnDay : ClockStep → ℤ → Type 0
BeginsOnDay Day day = ⊤
BeginsOnDay (Week first) day = weekday_of day ≡ weekday_number first
BeginsOnDay Month day = day_of_month day ≡ 1
BeginsOnDay Year day = day_of_year day ≡ 0
BeginsOnDay (Part part) day = ⊤

-- on such a day a step begins at midnight, and then again whenever this number of seconds has passed
abbrev pub seconds_of_step : ClockStep → ℕ
seconds_of_step Day = 86_400
seconds_of_step (Week first) = 86_400
seconds_of_step Month = 86_400
seconds_of_step Year = 86_400
seconds_of_step (Part part) = part.seconds

-- the step is a part of a day with this number of seconds
abbrev pub IsPart : ℕ → ClockStep → Type 0
IsPart seconds Day = ⊥
IsPart seconds (Week first) = ⊥
IsPart seconds Month = ⊥
IsPart seconds Year = ⊥
IsPart seconds (Part part) = part.seconds ≡ seconds

-- a step begins at that second of the day
pub record BeginsAtSecond (step : ClockStep) (day : ℤ) (second : ℕ) : Type 0 where
  pub on : BeginsOnDay step day
  pub at : second % seconds_of_step step ≡ 0

-- a step begins at the local time
abbrev pub BeginsStep : ClockStep → ℤ → Type 0
BeginsStep step = IsPlannedOnItsDay (BeginsAtSecond step)
