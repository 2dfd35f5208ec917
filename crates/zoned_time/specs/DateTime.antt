-- What a `DateTime` shows, and the order of instants: that of their date-times in UTC.
use Rattle.std.specs.{Prelude.{ℕ, ◌<◌, ◌≡◌, ℤ, pos, Option, Some, option_map}, declared.cmp.Ordering.{Ordering}, Ordering.{on, int_cmp, nat_cmp, then_cmp}}
use Rattle.naive_base.specs.{Fields.{TimeOfDay, IsMonthsLater, IsDaysLater, reading_on}, Range.{IsInRange}}
use Rattle.naive_base.specs.Reading.{Reading, reading_at, day_at, second_at, moved}
use Rattle.zoned_time.specs.{declared.datetime.Instant.{Instant}, Relocal.{IsOnlyWhere}, Zone.{Meaning, Law, home_law, IsOffsetAt}}
use Rattle.zoned_time.specs.Zoned.{Zoned, shown, local_of, IsAt}
use Rattle.std.specs.declared.fmt.Debug as debug
use Rattle.zoned_time.specs.declared.offset.Offset as offset

-- the order of date-times: by the second, then by the nanoseconds
abbrev pub compared : Reading → Reading → Ordering
compared = then_cmp (on (λ r. r.s) int_cmp) (on (λ r. r.f) nat_cmp)

-- the instant's date-time in UTC, and its offset
abbrev pub zoned : {Tz O : Type 0} {f : offset.Ghosts O} {g : debug.Ghosts O} → Instant Tz O f g → Zoned O
zoned d = shown d.datetime d.offset

-- what a clock with its offset shows
abbrev pub wall_of : {Tz O : Type 0} {f : offset.Ghosts O} {g : debug.Ghosts O} → Instant Tz O f g → Reading
wall_of {f = f} d = local_of f.seconds (zoned d)

-- the law of the zone that its offset came from, which need not be the zone's offset at that instant
abbrev pub home_law_of : {Tz O : Type 0} {f : offset.Ghosts O} {g : debug.Ghosts O} (m : Meaning O) → Instant Tz O f g → Law m
home_law_of m d = home_law m (zoned d).offset

-- the instant's offset is one that the zone gives then
abbrev pub IsIn : {Tz O : Type 0} {f : offset.Ghosts O} {g : debug.Ghosts O} {m : Meaning O} → Law m → Instant Tz O f g → Type 0
IsIn law d = IsOffsetAt law (zoned d).utc.s (zoned d).offset

-- the instant's date-time in UTC stays in range when moved by that many nanoseconds (backward if negative)
abbrev pub CanMove : {Tz O : Type 0} {f : offset.Ghosts O} {g : debug.Ghosts O} → Instant Tz O f g → ℤ → Type 0
CanMove d by = IsInRange (moved (zoned d).utc by).s

-- the instant moved by that many nanoseconds, with the offset of the zone that its offset came from
abbrev pub IsMoved : {Tz O : Type 0} {f : offset.Ghosts O} {g : debug.Ghosts O} (m : Meaning O) → Instant Tz O f g → ℤ → Instant Tz O f g → Type 0
IsMoved m d by new = IsAt (home_law_of m d) (moved (zoned d).utc by) (zoned new)

-- the instant of another date-time in UTC, with the same offset
abbrev pub IsSetTo : {Tz O : Type 0} {f : offset.Ghosts O} {g : debug.Ghosts O} → Instant Tz O f g → Reading → Instant Tz O f g → Type 0
IsSetTo d utc new = ((zoned new).utc ≡ utc) × ((zoned new).offset ≡ (zoned d).offset)

-- the day that this clock shows
abbrev pub day_shown_by : {Tz O : Type 0} {f : offset.Ghosts O} {g : debug.Ghosts O} → Instant Tz O f g → ℤ
day_shown_by d = day_at (wall_of d)

-- the only instant at which the clocks of its zone show, on the given day, the time that this clock shows; none without a day
abbrev pub IsOnlyOnDay : {Tz O : Type 0} {f : offset.Ghosts O} {g : debug.Ghosts O} (m : Meaning O)
    → Instant Tz O f g → Option ℤ → Option (Instant Tz O f g) → Type 0
IsOnlyOnDay m d day new =
    let l = wall_of d in IsOnlyWhere (home_law_of m d) (option_map (λ n. reading_at n (second_at l) l.f) day) (option_map (λ e. zoned e) new)

-- the only instant at which the clocks of its zone show the given time, on the day that this clock shows
abbrev pub IsOnlyAtTime : {Tz O : Type 0} {f : offset.Ghosts O} {g : debug.Ghosts O} (m : Meaning O)
    → Instant Tz O f g → Option TimeOfDay → Option (Instant Tz O f g) → Type 0
IsOnlyAtTime m d time new = IsOnlyWhere (home_law_of m d) (option_map (reading_on (day_at (wall_of d))) time) (option_map (λ e. zoned e) new)

-- the only instant at which the clocks of its zone show its local time that many months later (earlier if negative)
abbrev pub IsOnlyMonthsLater : {Tz O : Type 0} {f : offset.Ghosts O} {g : debug.Ghosts O} (m : Meaning O)
    → Instant Tz O f g → ℤ → Option (Instant Tz O f g) → Type 0
IsOnlyMonthsLater m d by new = IsMonthsLater (λ e. day_shown_by e) (IsOnlyOnDay m d) (day_shown_by d) by new

-- the only instant at which the clocks of its zone show its local time that many days later (earlier if negative)
abbrev pub IsOnlyDaysLater : {Tz O : Type 0} {f : offset.Ghosts O} {g : debug.Ghosts O} (m : Meaning O)
    → Instant Tz O f g → ℤ → Option (Instant Tz O f g) → Type 0
IsOnlyDaysLater m d by new = IsDaysLater (λ e. day_shown_by e) (IsOnlyOnDay m d) (day_shown_by d) by new

-- the only instant of its local time that many days later; adding 0 days gives the instant itself
pub record IsDaysAdded {Tz O : Type 0} {f : offset.Ghosts O} {g : debug.Ghosts O} (m : Meaning O) (d : Instant Tz O f g)
    (days : ℕ) (new : Option (Instant Tz O f g)) : Type 0 where
  pub none : days ≡ 0 → new ≡ Some d
  pub some : 0 < days → IsOnlyDaysLater m d (pos days) new
