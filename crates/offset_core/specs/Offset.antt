-- Offsets from UTC, as whole numbers of seconds, counted positive to the east.
use Rattle.std.specs.Prelude.{ℕ, ◌/◌, ◌%◌, ◌==◌, if◌then◌else◌, List, ◌∷◌, ◌++◌, ℤ, pos, neg_ℤ, ◌<ℤ◌, unsigned_abs}
use Rattle.offset_core.specs.Digits.{in_digits, sign_byte}

-- strictly within a day of UTC
abbrev pub IsWithinDay : ℤ → Type 0
IsWithinDay secs = (neg_ℤ (pos 86_400) <ℤ secs) × (secs <ℤ pos 86_400)

-- `HH:MM`, and `:SS` if the seconds of the minute aren't 0 (':' is 58)
abbrev pub short_clock_text : ℕ → List ℕ
short_clock_text secs =
    let hour = in_digits 2 (secs / 3600) in
    let minute = in_digits 2 (secs / 60 % 60) in
    if secs % 60 == 0 then hour ++ (58 ∷ minute)
    else hour ++ (58 ∷ (minute ++ (58 ∷ in_digits 2 (secs % 60))))

-- the sign, `+` for 0, and how far from UTC
abbrev pub offset_text : ℤ → List ℕ
offset_text secs = sign_byte secs ∷ short_clock_text (unsigned_abs secs)
