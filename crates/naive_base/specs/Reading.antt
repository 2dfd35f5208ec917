-- Local date-times, without a time zone: the whole seconds from 1970-01-01 00:00:00, as if there were no leap seconds,
-- and nanoseconds, which from 10^9 on are those of a leap second that follows that second.
use Rattle.std.specs.Prelude.{ℕ, ◌≡◌, ◌<◌, ◌⊎◌, ◌&&◌, nat_lt, nat_le, if◌then◌else◌, ℤ, pos, neg_ℤ, ◌<ℤ◌, ◌+ℤ◌, ◌-ℤ◌, ◌*ℤ◌, unsigned_abs, int_lt}
use Rattle.gregorian.specs.Year.{floor_div, floor_mod}

-- a local date-time: its second s, and its nanoseconds f
pub record Reading : Type 0 where
  pub s : ℤ
  pub f : ℕ

-- the day that the clock shows, and the second of the day
abbrev pub day_at : Reading → ℤ
day_at r = floor_div r.s 86_400

abbrev pub second_at : Reading → ℕ
second_at r = floor_mod r.s 86_400

-- the local date-time of that day, at that second of the day and those nanoseconds
abbrev pub reading_at : ℤ → ℕ → ℕ → Reading
reading_at day second f = record { s = day *ℤ pos 86_400 +ℤ pos second; f = f }

-- the local date-time of a clock that is that many seconds ahead, or slow
abbrev pub ahead : Reading → ℤ → Reading
ahead r seconds = record { s = r.s +ℤ seconds; f = r.f }

abbrev pub behind : Reading → ℤ → Reading
behind r seconds = record { s = r.s -ℤ seconds; f = r.f }

-- all of it in nanoseconds
abbrev pub total : Reading → ℤ
total r = r.s *ℤ pos 1_000_000_000 +ℤ pos r.f

-- the local date-time of that many nanoseconds, no leap second
abbrev pub of_total : ℤ → Reading
of_total n = record { s = floor_div n 1_000_000_000; f = floor_mod n 1_000_000_000 }

-- a local date-time in a leap second, moved, where p counts the nanoseconds from its second's start: it is the same leap second, or
-- lies before that second, or after the leap second
abbrev pub moved_leap : ℤ → ℤ → Reading
moved_leap s p =
    if int_lt p (pos 0) then of_total (s *ℤ pos 1_000_000_000 +ℤ p)
    else if int_lt p (pos 2_000_000_000) then record { s = s; f = unsigned_abs p }
    else of_total (s *ℤ pos 1_000_000_000 +ℤ p -ℤ pos 1_000_000_000)

-- the local date-time that many nanoseconds later; a leap second is one second more, if it is its own
abbrev pub moved : Reading → ℤ → Reading
moved r d =
    if nat_lt r.f 1_000_000_000 then of_total (total r +ℤ d)
    else moved_leap r.s (pos r.f +ℤ d)

-- the leap second that counts between two local date-times: b's if a's second of the day is greater, a's if it is less
abbrev pub leap_between : Reading → Reading → ℤ
leap_between a b =
    if nat_lt (second_at b) (second_at a) && nat_le 1_000_000_000 b.f then pos 1
    else if nat_lt (second_at a) (second_at b) && nat_le 1_000_000_000 a.f then neg_ℤ (pos 1)
    else pos 0

-- the nanoseconds from b to a
abbrev pub difference : Reading → Reading → ℤ
difference a b =
    pos 1_000_000_000 *ℤ (a.s -ℤ b.s) +ℤ pos a.f -ℤ pos b.f +ℤ pos 1_000_000_000 *ℤ leap_between a b

-- the order of local date-times: by the second, then by the nanoseconds
abbrev pub IsEarlier : Reading → Reading → Type 0
IsEarlier a b = (a.s <ℤ b.s) ⊎ ((a.s ≡ b.s) × (a.f < b.f))

-- the order of times: by the second of the day, then by the nanoseconds
abbrev pub IsEarlierTime : ℕ → ℕ → ℕ → ℕ → Type 0
IsEarlierTime second f second₂ f₂ = (second < second₂) ⊎ ((second ≡ second₂) × (f < f₂))

-- the order of local date-times by their days, then by their times
abbrev pub IsEarlierByDay : Reading → Reading → Type 0
IsEarlierByDay a b =
    (day_at a <ℤ day_at b) ⊎ ((day_at a ≡ day_at b) × IsEarlierTime (second_at a) a.f (second_at b) b.f)
