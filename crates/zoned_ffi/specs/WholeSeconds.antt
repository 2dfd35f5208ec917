-- Whole seconds that are found for instants: the last local time that clocks have shown, and where steps of the local clock begin.
use Rattle.std.specs.Prelude.{ℕ, ℤ, ◌≡◌, ◌+◌, ◌*ℤ◌, pos}
use Rattle.naive_base.specs.{Range.{IsInRange}, Stamp.{of_secs}, Weekday.{weekday_number}}
use Rattle.naive_plans.specs.{ClockSteps.{BeginsStep}, declared.clock_step.ClockStep.{ClockStep, TheVariants.{Day, Week, Month, Year, Part}}}
use Rattle.tz_info.specs.Zones.{Zone}
use Rattle.zoned_ref.specs.Offsets.{AreOffsetsOf, IsNarrow}
use Rattle.zoned_time.specs.{Days.{IsInDay}, Zone.{IsReachedAt}}
use Rattle.zoned_plans.specs.{Fires.{IsLastFire, IsNextFire, NoneFiresAfter, NoneFiresUntil}, StepBounds.{AreStepBounds, IsStepOutOfRange}}
use Rattle.zoned_ffi.specs.declared.{days.WrittenDay.{WrittenDay}, whole_second.WholeSecond.{WholeSecond, TheVariants.{Reached, Floor, Ceil}}}

-- the number of a step: its seconds, if it is a part of a day; of a week 100,000 more than its weekday, 0 for Sunday
abbrev pub step_number : ClockStep → ℕ
step_number Day = 86_400
step_number (Week first) = 100_000 + weekday_number first
step_number Month = 200_000
step_number Year = 300_000
step_number (Part part) = part.seconds

-- there is a step of that number
abbrev pub IsStep : ℕ → Type 0
IsStep number = (step : ClockStep) × (number ≡ step_number step)

-- v is found for an instant in the second t, by clocks of these offsets; `before` is the last second before that instant. It is the
-- last local time that they have shown; or, in the calendar's range, the second at which the step that t lies in begins; or the first
-- second from the instant on at which a step begins
abbrev pub IsFoundBy : (ℤ → ℤ) → WholeSecond → ℤ → ℤ → ℤ → Type 0
IsFoundBy off Reached t before v = IsReachedAt off t v
IsFoundBy off (Floor step) t before v = IsLastFire off (BeginsStep step) t v × IsInRange v
IsFoundBy off (Ceil step) t before v = IsNextFire off (BeginsStep step) before v × IsInRange v

-- none is: in that range no step begins at t or before it, or none from the instant on
abbrev pub IsNoneFoundBy : (ℤ → ℤ) → WholeSecond → ℤ → ℤ → Type 0
IsNoneFoundBy off Reached t before = ⊥
IsNoneFoundBy off (Floor step) t before = NoneFiresUntil off (BeginsStep step) t
IsNoneFoundBy off (Ceil step) t before = NoneFiresAfter off (BeginsStep step) before

-- the same by clocks with the offsets of the zone's types
abbrev pub IsFound : Zone → WholeSecond → ℤ → ℤ → ℤ → Type 0
IsFound z sought t before v = (off : ℤ → ℤ) × AreOffsetsOf z off × IsFoundBy off sought t before v

-- why none is, by its number: an offset of the zone is a day or more, or the second t or what is sought is outside the calendar's range
pub data IsNotFound (z : Zone) (sought : WholeSecond) (t before : ℤ) : ℕ → Type 0 where
  wide : ¬ (IsNarrow z) → IsNotFound z sought t before 40
  out_of_range : ¬ (IsInRange t) → IsNotFound z sought t before 23
  none : (off : ℤ → ℤ) → AreOffsetsOf z off → IsNoneFoundBy off sought t before → IsNotFound z sought t before 23

-- the day that the second t lies in: its date, as the local time of its midnight, and the seconds at which it and the next one begin, in
-- the calendar's range
pub record IsDayAt (z : Zone) (t : ℤ) (w : WrittenDay) : Type 0 where
  pub off : ℤ → ℤ
  pub offsets : AreOffsetsOf z off
  pub day : ℤ
  pub in_day : IsInDay off day (of_secs t 0)
  pub date : w.date ≡ day *ℤ pos 86_400
  pub bounds : AreStepBounds off (BeginsStep Day) t w.begin w.end
  pub begin_in_range : IsInRange w.begin
  pub end_in_range : IsInRange w.end

-- why none is written, by its number
pub data IsNoDayAt (z : Zone) (t : ℤ) : ℕ → Type 0 where
  wide : ¬ (IsNarrow z) → IsNoDayAt z t 40
  out_of_range : ¬ (IsInRange t) → IsNoDayAt z t 23
  end_out_of_range : (off : ℤ → ℤ) → AreOffsetsOf z off → IsStepOutOfRange off (BeginsStep Day) t → IsNoDayAt z t 23
