-- Weeks from Monday to Sunday, as ISO 8601 has them.
use Rattle.std.specs.Prelude.{◌≡◌, ℤ, pos, ◌+ℤ◌, ◌-ℤ◌, ◌≤ℤ◌}
use Rattle.gregorian.specs.Weekdays.{weekday_of}

-- the Thursday of the week that a day lies in
abbrev pub IsThursdayOf : ℤ → ℤ → Type 0
IsThursdayOf day thursday =
    (weekday_of thursday ≡ 4) × ((thursday -ℤ pos 3) ≤ℤ day) × (day ≤ℤ (thursday +ℤ pos 3))
