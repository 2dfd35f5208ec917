-- Steps of the walks over local times.
use Rattle.std.specs.Prelude.{ℕ, ◌<◌, ◌≤◌, ℤ, pos, neg_ℤ, ◌≤ℤ◌, ◌<ℤ◌, ◌+ℤ◌}
use Rattle.naive_base.specs.Weekday.{weekday_number}
use Rattle.naive_rrule.specs.{RecurrenceRules.{Counts, period_of}, declared.rule.Frequency.{Frequency, TheVariants.{Secondly}}}
use Rattle.naive_rrule.specs.declared.rule.RecurrenceRule.{RecurrenceRule}

-- the days of the years -200 to 12000, about, and a week more
abbrev pub IsRuleDay : ℤ → Type 0
IsRuleDay day = (neg_ℤ (pos 800_000) ≤ℤ day) × (day ≤ℤ pos 4_000_000)

abbrev pub IsNearRuleDay : ℤ → Type 0
IsNearRuleDay day = (neg_ℤ (pos 800_007) ≤ℤ day) × (day ≤ℤ pos 4_000_007)

-- the seconds of those days
abbrev pub IsRuleSecond : ℤ → Type 0
IsRuleSecond l = (neg_ℤ (pos 69_120_000_000) ≤ℤ l) × (l <ℤ pos 345_600_086_400)

-- a period's number that is not too large
abbrev pub IsPeriod : ℤ → Type 0
IsPeriod p = (neg_ℤ (pos 350_000_000_000) ≤ℤ p) × (p ≤ℤ pos 350_000_000_000)

-- the period that a local second lies in
abbrev pub own_period : RecurrenceRule → ℤ → ℤ
own_period r l = period_of r.frequency (weekday_number r.week_start) l

-- an interval and a start in the years 0 to 9999
abbrev pub IsStarted : ℕ → ℤ → Type 0
IsStarted interval start = (1 ≤ interval) × (interval < 4_294_967_296) × (neg_ℤ (pos 62_167_219_200) ≤ℤ start) × (start <ℤ pos 253_402_300_800)

-- a number that is not after the first period from the year 0 on
abbrev pub least_period : Frequency → ℤ
least_period Secondly = neg_ℤ (pos 62_167_219_200)
least_period _ = neg_ℤ (pos 1_100_000_000)

-- of the periods that count, the last one up to a period; the next one comes an interval later
pub record IsLastPeriod (interval : ℕ) (first period last : ℤ) : Type 0 where
  pub counts : Counts interval first last
  pub not_after : last ≤ℤ period
  pub greatest : (p : ℤ) → Counts interval first p → p ≤ℤ period → p ≤ℤ last
  pub next : (p : ℤ) → Counts interval first p → period <ℤ p → (last +ℤ pos interval) ≤ℤ p

-- a last second: in the years 0 to 9999, or the second before them
abbrev pub IsBounded : ℤ → Type 0
IsBounded last = (neg_ℤ (pos 62_167_219_201) ≤ℤ last) × (last <ℤ pos 253_402_300_800)
