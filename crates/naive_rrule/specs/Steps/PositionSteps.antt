-- How many times the days, hours, minutes and seconds of a rule have.
use Rattle.std.specs.Prelude.{◌≡◌, ◌⊎◌, ℕ, zero, suc, ◌<◌, ℤ, pos, neg_ℤ, ◌≤ℤ◌, ◌<ℤ◌}
use Rattle.naive_rrule.specs.{RecurrenceRules.{HasHour, HasMinute, HasSecond}, Steps.OccasionSteps.{IsPartOfHours}, declared.rule.Frequency.TheVariants.{Daily}}
use Rattle.naive_rrule.specs.declared.rule.RecurrenceRule.{RecurrenceRule}

-- the rule's periods are days, hours, minutes or seconds, and each has `n` seconds
abbrev pub IsLength : RecurrenceRule → ℕ → Type 0
IsLength r n = ((r.frequency ≡ Daily) × (n ≡ 86_400)) ⊎ IsPartOfHours r n

-- the rule's parts for it let a second of a period of that length through
pub record HasSecondAt (r : RecurrenceRule) (start length second : ℕ) : Type 0 where
  pub hour : 3600 < length → HasHour r start second
  pub minute : 60 < length → HasMinute r start second
  pub at_second : 1 < length → HasSecond r start second

-- `n + 1` rising members of a set: `from` is the first of them, `to` the last
abbrev pub IsChain : (ℤ → Type 0) → ℤ → ℕ → ℤ → Type 0
IsChain set from zero to = set to × (from ≡ to)
IsChain set from (suc n) to = (k : ℤ) × IsChain set from n k × set to × (k <ℤ to)

-- a position needs more members than that
abbrev pub IsBeyond : ℕ → ℤ → Type 0
IsBeyond count n = (n <ℤ neg_ℤ (pos count)) ⊎ (pos count <ℤ n)

-- no member of a set up to a second, and none after it
abbrev pub HasNoneUpTo : (ℤ → Type 0) → ℤ → Type 0
HasNoneUpTo set s = (m : ℤ) → set m → m ≤ℤ s → ⊥

abbrev pub HasNoneLeft : (ℤ → Type 0) → ℤ → Type 0
HasNoneLeft set s = (m : ℤ) → set m → s <ℤ m → ⊥
