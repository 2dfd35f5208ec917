-- A time of day on each day from a first one on, by the clocks of a zone, under a choice for gaps and folds.
use Rattle.std.specs.Prelude.{◌≡◌, ℕ, ◌+◌, ◌-◌, ◌<◌, ◌≤◌, ℤ, pos, ◌+ℤ◌, Option, MatchOption, Result, MatchResult}
use Rattle.offset_core.specs.{declared.choice.Choice.{Choice}, declared.resolve_error.ResolveError.{ResolveError}}
use Rattle.offset_core.specs.ResolveNumbers.{resolve_error_number as number_within}
use Rattle.naive_base.specs.{Range.{IsDayInRange}, Reading.{Reading, reading_at}, NaiveDate.{day_of}, NaiveTime.{second_of, fraction_of}}
use Rattle.zoned_time.specs.{Choice.{IsResolved, IsUnresolved}, Zone.{Meaning, Law}, Zoned.{Zoned}}
use Rattle.zoned_series.specs.{declared.series_error.SeriesError.{SeriesError}, declared.series_error.SeriesError.TheVariants.{Date, Resolve}}
use Rattle.zoned_series.specs.{declared.items.DailyItems.{DailyItems}, declared.series.DailySeries.{DailySeries}}

-- days are day numbers, counted from 1970-01-01; second and fraction are those of the time of day
pub record Series (Z : Type 0) : Type 0 where
  pub zone : Z
  pub first : ℤ
  pub second : ℕ
  pub fraction : ℕ
  pub choice : Choice

-- that time on the day n days after the first
abbrev pub reading_of : {Z : Type 0} → Series Z → ℕ → Reading
reading_of s n = reading_at (s.first +ℤ pos n) s.second s.fraction

-- item n is that instant: the day is in range, and the choice takes the instant for the time on that day
pub record IsItem {Z O : Type 0} {m : Meaning O} (law : Law m) (s : Series Z) (n : ℕ) (d : Zoned O) : Type 0 where
  pub day : IsDayInRange (s.first +ℤ pos n)
  pub resolved : IsResolved law (reading_of s n) s.choice d

-- why there is no item n
pub data IsMissing {Z O : Type 0} {m : Meaning O} (law : Law m) (s : Series Z) (n : ℕ) (e : SeriesError) : Type 0 where
  out_of_range : ¬ (IsDayInRange (s.first +ℤ pos n)) → e ≡ Date → IsMissing law s n e
  unresolved : (cause : ResolveError) → IsDayInRange (s.first +ℤ pos n) → IsUnresolved law.off (reading_of s n).s s.choice cause
      → e ≡ Resolve cause → IsMissing law s n e

-- what holds of item n, if `zoned` shows an instant
abbrev pub IsItemOrError : {Z O D : Type 0} {m : Meaning O} → Law m → (D → Zoned O) → Series Z → ℕ → Result D SeriesError → Type 0
IsItemOrError law zoned s n answer = MatchResult answer (λ d. IsItem law s n (zoned d)) (λ e. IsMissing law s n e)

-- the items from `next` on, and before `end`
pub record Items (Z : Type 0) : Type 0 where
  pub series : Series Z
  pub next : ℕ
  pub end : ℕ

-- a step gave the next item, or nothing if and only if none is left
abbrev pub GivesNext : {Z O D : Type 0} {m : Meaning O} → Law m → (D → Zoned O) → Items Z → Option (Result D SeriesError) → Items Z → Type 0
GivesNext law zoned before answer after = MatchOption answer
    ((before.end ≤ before.next) × (after ≡ before))
    (λ item. (before.next < before.end) × IsItemOrError law zoned before.series before.next item
    × (after ≡ record before { next = before.next + 1 }))

-- a step from the back gave the last item
abbrev pub GivesBack : {Z O D : Type 0} {m : Meaning O} → Law m → (D → Zoned O) → Items Z → Option (Result D SeriesError) → Items Z → Type 0
GivesBack law zoned before answer after = MatchOption answer
    ((before.end ≤ before.next) × (after ≡ before))
    (λ item. (before.next < before.end) × IsItemOrError law zoned before.series (before.end - 1) item
    × (after ≡ record before { end = before.end - 1 }))

-- the number of an error of a series
abbrev pub series_error_number : SeriesError → ℕ
series_error_number Date = 24
series_error_number (Resolve cause) = number_within cause

-- the series that a `DailySeries` shows: its zone, first day, time of day and choice
abbrev pub series_of : {Z : Type 0} → DailySeries Z → Series Z
series_of s = record { zone = s.zone; first = day_of s.first; second = second_of s.time; fraction = fraction_of s.time; choice = s.choice }

-- the items of a series that a `DailyItems` has left
abbrev pub items_of : {Z : Type 0} → DailyItems Z → Items Z
items_of i = record { series = series_of i.series; next = i.next; end = i.end }
