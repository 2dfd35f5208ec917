-- Dates that the days of the month and the months of a `Cron` leave out.
use Rattle.std.specs.Prelude.{ℕ, ◌<◌, ◌≤◌, true, false, IsTrue, get_or}
use Rattle.gregorian.specs.Month.{days_in_month}
use Rattle.naive_plans.specs.declared.cron.Cron.{Cron}

-- it lists no day of the month up to that one
abbrev pub ListsNoDayUpTo : Cron → ℕ → Type 0
ListsNoDayUpTo c last = (d : ℕ) → 1 ≤ d → d ≤ last → IsTrue (get_or c.days d false) → ⊥

-- of the months before that one it lists none in which a day that it lists is a date of a leap year
abbrev pub ListsNoDateBefore : Cron → ℕ → Type 0
ListsNoDateBefore c end = (m d : ℕ) → 1 ≤ m → m < end → 1 ≤ d → d ≤ days_in_month true m → IsTrue (get_or c.months m false) → IsTrue (get_or c.days d false) → ⊥
