-- What the walks over local times answer.
use Rattle.std.specs.Prelude.{◌≡◌, ◌⊎◌, ℕ, ◌<◌, ◌≤◌, ℤ, pos, neg_ℤ, ◌+ℤ◌, ◌-ℤ◌, ◌*ℤ◌, ◌≤ℤ◌, ◌<ℤ◌}
use Rattle.gregorian.specs.Year.{floor_mod}
use Rattle.naive_rrule.specs.{Steps.RuleSteps.{own_period}, RecurrenceRules.{Counts, HasHour, HasMinute, HasSecond}}
use Rattle.naive_rrule.specs.declared.rule.{Frequency.TheVariants.{Hourly, Minutely, Secondly}, RecurrenceRule.{RecurrenceRule}}

-- a second's period counts
abbrev pub IsCounted : RecurrenceRule → ℤ → ℤ → Type 0
IsCounted r start l = Counts r.interval (own_period r start) (own_period r l)

-- no period counts from a second on and before another one, and the first second's own one doesn't
pub record IsStartOfNext (r : RecurrenceRule) (start second next : ℤ) : Type 0 where
  pub none : (l : ℤ) → IsCounted r start l → second ≤ℤ l → next ≤ℤ l
  pub not_here : IsCounted r start second → ⊥
  pub bound : (neg_ℤ (pos 1_000_000_000_000_000_000) ≤ℤ next) × (next ≤ℤ pos 1_000_000_000_000_000_000)

-- no period counts from a second on and up to another one, and the last second's own one doesn't
pub record IsEndOfLast (r : RecurrenceRule) (start second end : ℤ) : Type 0 where
  pub none : (l : ℤ) → IsCounted r start l → l ≤ℤ second → l <ℤ end
  pub not_here : IsCounted r start second → ⊥
  pub bound : ((start -ℤ pos 31_708_800) ≤ℤ end) × (end <ℤ pos 345_600_086_400)

-- the rule's periods are hours, minutes or seconds, and each has `n` seconds
abbrev pub IsPartOfHours : RecurrenceRule → ℕ → Type 0
IsPartOfHours r n = ((r.frequency ≡ Hourly) × (n ≡ 3600)) ⊎ ((r.frequency ≡ Minutely) × (n ≡ 60)) ⊎ ((r.frequency ≡ Secondly) × (n ≡ 1))

-- the rule's parts for hours, minutes and seconds let a period of that length through, by its first second
pub record HasPeriodOfDay (r : RecurrenceRule) (start length second : ℕ) : Type 0 where
  pub hour : HasHour r start second
  pub minute : length ≤ 60 → HasMinute r start second
  pub at_second : length ≤ 1 → HasSecond r start second

-- its parts but those for dates let the second of the day through
pub record IsTimeOn (r : RecurrenceRule) (start day : ℤ) (second : ℕ) : Type 0 where
  pub counts : IsCounted r start (day *ℤ pos 86_400 +ℤ pos second)
  pub hour : HasHour r (floor_mod start 86_400) second
  pub minute : HasMinute r (floor_mod start 86_400) second
  pub at_second : HasSecond r (floor_mod start 86_400) second

-- a day has none from a second on and before another one
pub record IsSkipped (on : ℕ → Type 0) (second next : ℕ) : Type 0 where
  pub later : second < next
  pub in_day : next ≤ 86_400
  pub none : (k : ℕ) → k < 86_400 → on k → second ≤ k → next ≤ k

-- the first of a set, from a second on and before another one
pub record IsFirstBetween (set : ℤ → Type 0) (from end l : ℤ) : Type 0 where
  pub one : set l
  pub not_before : from ≤ℤ l
  pub before_end : l <ℤ end
  pub least : (m : ℤ) → set m → from ≤ℤ m → l ≤ℤ m

abbrev pub HasNoneBetween : (ℤ → Type 0) → ℤ → ℤ → Type 0
HasNoneBetween set from end = (m : ℤ) → set m → from ≤ℤ m → m <ℤ end → ⊥

-- a day has none from a second on and up to another one
pub record IsSkippedBack (on : ℕ → Type 0) (second end : ℕ) : Type 0 where
  pub earlier : end ≤ second
  pub none : (k : ℕ) → on k → k ≤ second → k < end
