-- What the code asks of the moments of a year and of its neighbours.
use Rattle.std.specs.Prelude.{Bool, ◌&&◌, ◌||◌, not, if◌then◌else◌, ℤ, pos, ◌+ℤ◌, ◌-ℤ◌, int_le, int_lt}
use Rattle.tz_info.specs.declared.rule.moments.Turns.{Turns}

-- from the first moment on, and before the last
abbrev pub is_between : ℤ → ℤ → ℤ → Bool
is_between first last u = int_le first u && int_lt u last

-- daylight saving time by the moments of one year
abbrev pub is_dst_by_one : ℤ → ℤ → ℤ → Bool
is_dst_by_one start end u = if int_le start end then is_between start end u else not (is_between end start u)

-- some of three years has the second between its moments
abbrev pub is_in_three : (ℤ → ℤ) → (ℤ → ℤ) → ℤ → ℤ → Bool
is_in_three firsts lasts year u =
    is_between (firsts (year -ℤ pos 1)) (lasts (year -ℤ pos 1)) u || is_between (firsts year) (lasts year) u
    || is_between (firsts (year +ℤ pos 1)) (lasts (year +ℤ pos 1)) u

-- daylight saving time by the moments of a year and of the years before and after it
abbrev pub dst_by : Turns → Turns → Turns → ℤ → Bool
dst_by before here after u =
    if int_le here.start here.end then is_between before.start before.end u || is_between here.start here.end u || is_between after.start after.end u
    else not (is_between before.end before.start u || is_between here.end here.start u || is_between after.end after.start u)
