-- Parts of a day, in seconds.
use Rattle.std.specs.Prelude.{◌≡◌, ℕ, ◌%◌, ◌≤◌}

-- a day is a whole multiple of this number of seconds
abbrev pub IsPartOfDay : ℕ → Type 0
IsPartOfDay seconds = (1 ≤ seconds) × (86_400 % seconds ≡ 0)
