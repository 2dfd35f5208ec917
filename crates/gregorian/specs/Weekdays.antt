-- The weekday of a day, by its number.
use Rattle.std.specs.Prelude.{ℕ, ℤ, pos, ◌+ℤ◌}
use Rattle.gregorian.specs.Year.{floor_mod}

-- as POSIX counts, 0 for Sunday to 6 for Saturday; 1970-01-01 was a Thursday
abbrev pub weekday_of : ℤ → ℕ
weekday_of day = floor_mod (day +ℤ pos 4) 7
