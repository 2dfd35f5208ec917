-- Weekdays come in turn, and a month's days one after another.
use Rattle.std.proofs.Common.{◌≡◌, ℕ, ◌+◌, ◌%◌, ◌<◌, arith, ℤ, pos, ◌+ℤ◌, ◌-ℤ◌}
use Rattle.gregorian.specs.{Weekdays.{weekday_of}, Weeks.{IsThursdayOf}}
use Rattle.gregorian.proofs.{Floor.{floors}}

pub weekday_later : (day : ℤ) (n : ℕ) → weekday_of (day +ℤ pos n) ≡ (weekday_of day + n) % 7
weekday_later day n = grind arith

pub weekday_below : (day : ℤ) → weekday_of day < 7
weekday_below day = grind arith

-- the Thursday of a week that runs from Monday to Sunday
pub thursday_at : (day t : ℤ) → t +ℤ pos ((weekday_of day + 6) % 7) ≡ day +ℤ pos 3 → IsThursdayOf day t
thursday_at day t e = grind arith

-- which each week has, and no other
pub some_thursday : (day : ℤ) → (t : ℤ) × IsThursdayOf day t
some_thursday day =
    let t = day +ℤ pos 3 -ℤ pos ((weekday_of day + 6) % 7) in
    (t, thursday_at day t (omega (arith, floors)))

pub one_thursday : (day a b : ℤ) → IsThursdayOf day a → IsThursdayOf day b → a ≡ b
one_thursday day a b h k = grind arith
