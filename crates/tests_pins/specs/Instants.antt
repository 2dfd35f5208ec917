-- Instants with an offset of five hours behind UTC or of UTC, instants that are only counted, and noons.
use Rattle.std.specs.Prelude.{◌≡◌, ℕ, ℤ, pos, neg_ℤ, ◌+◌, ◌+ℤ◌, None}
use Rattle.naive_base.specs.{Date.{day_number}, Reading.{Reading, reading_at}}
use Rattle.zoned_time.specs.{declared.datetime.Instant.{Instant}, Zone.{Meaning, meaning_by_seconds}, Zoned.{Zoned}}

-- an offset is nothing but its seconds
abbrev pub own_seconds : ℤ → ℤ
own_seconds k = k

-- five nanoseconds after that second of UTC, in New York's winter
abbrev pub in_new_york : ℤ → Zoned ℤ
in_new_york u = record { utc = record { s = u; f = 5 }; offset = neg_ℤ (pos 18_000) }

-- that many seconds after noon of that date
abbrev pub noon : ℤ → ℕ → ℕ → ℕ → Reading
noon y m d after = reading_at (day_number y m d) (43_200 + after) 0

-- an instant that is nothing but its nanoseconds, moved by that many
abbrev pub IsLater : ℤ → ℤ → ℤ → Type 0
IsLater value way answer = answer ≡ value +ℤ way

-- instants whose offsets are nothing but their seconds, of clocks of UTC
abbrev pub PlainInstant : Type 0
PlainInstant = Instant ℤ ℤ (record { seconds = own_seconds }) (record { debug_output = λ _. None })

abbrev pub of_utc : Meaning ℤ
of_utc = meaning_by_seconds own_seconds (λ _ _. pos 0)
