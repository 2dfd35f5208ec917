-- Dates and times of day as fields.
use Rattle.std.specs.Prelude.{ℕ, ℤ, ◌≡◌, ◌+ℤ◌, ◌*ℤ◌, pos}
use Rattle.gregorian.specs.{Date.{IsDate, day_number}, Weekdays.{weekday_of}, Year.{year_start}}
use Rattle.naive_base.specs.{Clock.{IsClock, clock_second}, Range.{IsInRange}}
use Rattle.tz_base.specs.LocalTypes.{LocalType}
use Rattle.tz_info.specs.Zones.{Zone, TypeAt, IsTypeRefused}
use Rattle.zoned_ffi.specs.declared.fields.Fields.{Fields}

-- the day of the date, counted from 1970-01-01
abbrev pub day_of_fields : Fields → ℤ
day_of_fields f = day_number f.year f.month f.day

-- the seconds from 1970-01-01 00:00:00 to the date and the time of day, every day counted as 86,400
abbrev pub local_of_fields : Fields → ℤ
local_of_fields f = (pos 86_400 *ℤ day_of_fields f) +ℤ pos (clock_second f.hour f.minute f.second)

-- the calendar has the date, and a clock shows the time
pub record IsDateTime (f : Fields) : Type 0 where
  pub date : IsDate f.year f.month f.day
  pub time : IsClock f.hour f.minute f.second

-- the fields of the local time: its date and time of day, the weekday of the date, 0 for Sunday, and its day of the year, 1 for 1 January
pub record AreFieldsOf (local : ℤ) (f : Fields) : Type 0 where
  pub date_time : IsDateTime f
  pub names : local_of_fields f ≡ local
  pub weekday : f.weekday ≡ weekday_of (day_of_fields f)
  pub day_of_year : year_start f.year +ℤ pos f.day_of_year ≡ day_of_fields f +ℤ pos 1

-- the local time of the date and the time of day, in the calendar's range
pub record IsLocalOf (f : Fields) (local : ℤ) : Type 0 where
  pub date_time : IsDateTime f
  pub named : local ≡ local_of_fields f
  pub in_range : IsInRange local

-- the number of the error of fields without a local time
pub data IsNoLocalOf (f : Fields) : ℕ → Type 0 where
  no_date_time : ¬ (IsDateTime f) → IsNoLocalOf f 39
  outside : IsDateTime f → ¬ (IsInRange (local_of_fields f)) → IsNoLocalOf f 23

-- the fields of the local time that a clock of the zone shows at the second u
pub record AreFieldsAt (z : Zone) (u : ℤ) (f : Fields) : Type 0 where
  pub type : LocalType
  pub in_force : TypeAt z u type
  pub in_range : IsInRange (u +ℤ type.offset)
  pub fields : AreFieldsOf (u +ℤ type.offset) f

-- the number of the error of a second without fields
pub data AreNoFieldsAt (z : Zone) (u : ℤ) : ℕ → Type 0 where
  no_type : IsTypeRefused z u → AreNoFieldsAt z u 37
  outside : (t : LocalType) → TypeAt z u t → ¬ (IsInRange (u +ℤ t.offset)) → AreNoFieldsAt z u 23
