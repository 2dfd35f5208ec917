-- The errors, by their variants and by the numbers of these.
use Rattle.std.specs.Prelude.{ℕ, ◌≡◌}
use Rattle.tz_base.specs.declared.error.Error.{Error}
use Rattle.tz_base.specs.declared.error.Error.TheVariants as errors

-- the number of an error, by its variant
abbrev pub error_number : Error → ℕ
error_number (errors.DateTime _) = 1
error_number (errors.FindLocalTimeType _) = 2
error_number (errors.LocalTimeType _) = 3
error_number (errors.InvalidSlice _) = 4
error_number (errors.InvalidTzFile _) = 5
error_number (errors.InvalidTzString _) = 6
error_number (errors.UnexpectedEnd _) = 7
error_number (errors.MissingTag _) = 8
error_number (errors.OutOfRange _) = 9
error_number (errors.ParseInt _) = 10
error_number (errors.ProjectDateTime _) = 11
error_number (errors.TimeZone _) = 12
error_number (errors.TransitionRule _) = 13
error_number (errors.UnsupportedTzFile _) = 14
error_number (errors.UnsupportedTzString _) = 15
error_number (errors.Utf8 _) = 16
error_number errors.OutOfMemory = 17

abbrev pub IsOutOfMemory : Error → Type 0
IsOutOfMemory e = error_number e ≡ 17
