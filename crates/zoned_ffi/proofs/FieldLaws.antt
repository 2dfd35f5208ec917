-- Dates and times of day as fields.
use Rattle.gregorian.proofs.ForCallers.{day_of_year_is}
use Rattle.gregorian.specs.{Date.{IsDate, day_number}, DateOf.{day_of_year, year_of}, Weekdays.{weekday_of}, Year.{floor_mod, year_start}}
use Rattle.naive_base.specs.Clock.{clock_second}
use Rattle.zoned_ffi.proofs.Words.{ap, arith, floor_div, floors, ints, pos, ℕ, ℤ, ◌*ℤ◌, ◌+ℤ◌, ◌+◌, ◌<◌, ◌≡◌, IsInRange, w64}
use Rattle.zoned_ffi.specs.{Fields.{AreFieldsOf, day_of_fields, local_of_fields}, declared.fields.Fields.{Fields}}
use Rattle.std.proofs.Common.{◌/◌, ◌%◌, to_z-of_z}
use Rattle.std.specs.Int.{saturate_signed}

pub fields_are : (local : ℤ) (day : ℤ) (time : ℕ) (f : Fields) → day ≡ floor_div local 86_400 → time ≡ floor_mod local 86_400
    → IsDate f.year f.month f.day → day_number f.year f.month f.day ≡ day → f.year ≡ year_of day
    → f.hour ≡ time / 3600 → f.minute ≡ time / 60 % 60 → f.second ≡ time % 60
    → f.weekday ≡ weekday_of day → f.day_of_year ≡ day_of_year day + 1 → AreFieldsOf local f
fields_are local day time f day_is time_is date number year h m s w y =
    let part : floor_mod local 86_400 < 86_400 = omega (arith, ints, floors) in
    let clock : clock_second f.hour f.minute f.second ≡ time = omega arith in
    let own = (day_of_year_is day).0 in let start = ap year_start year in
    record { date_time = record { date = date; time = grind arith }; names = omega (arith, ints, floors); weekday = cc; day_of_year = omega (arith, ints) }

-- the sum of the seconds of the whole days and of those of the time of day
pub local_is : (f : Fields) (day time sum : ℤ) → day ≡ day_of_fields f → time ≡ pos (clock_second f.hour f.minute f.second)
    → sum ≡ (day *ℤ pos 86_400) +ℤ time → sum ≡ local_of_fields f
local_is f day time sum day_is time_is sum_is = omega (arith, ints)

-- the nearest number of 64 bits is in the calendar's range only if the number is, and then it is that number
pub kept_inside : (n : ℤ) → IsInRange n → saturate_signed w64 n ≡ n
kept_inside n inside = grind (arith, ints)

pub kept_outside : (n : ℤ) → IsInRange (saturate_signed w64 n) → saturate_signed w64 n ≡ n
kept_outside n inside = grind (arith, ints)

pub ruleset saturations = (to_z-of_z, kept_inside, kept_outside)
