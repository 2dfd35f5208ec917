-- Plans at times of each day, and lines of a crontab.
use Rattle.std.specs.Prelude.{◌≡◌, ◌↔◌, ◌⊎◌, ℕ, ℤ, Bool, false, true, IsTrue, List, get_or}
use Rattle.naive_plans.specs.{DayPlans.{IsPlannedOnItsDay}, declared.cron.Cron.{Cron}}

-- on each day, that second of the day
abbrev pub daily : ℕ → ℤ → Type 0
daily second = IsPlannedOnItsDay (λ _ s. s ≡ second)

-- on each day, these two
abbrev pub twice_daily : ℕ → ℕ → ℤ → Type 0
twice_daily first last = IsPlannedOnItsDay (λ _ s. (s ≡ first) ⊎ (s ≡ last))

-- a field lists exactly the numbers with that property
abbrev pub Lists : List Bool → (ℕ → Type 0) → Type 0
Lists field property = (k : ℕ) → IsTrue (get_or field k false) ↔ property k

-- it is the line `30 4 1,15 * 5`
pub record IsAlsoOnFridays (c : Cron) : Type 0 where
  pub minutes : Lists c.minutes (λ k. k ≡ 30)
  pub hours : Lists c.hours (λ k. k ≡ 4)
  pub days : Lists c.days (λ k. (k ≡ 1) ⊎ (k ≡ 15))
  pub march : IsTrue (get_or c.months 3 false)
  pub weekdays : Lists c.weekdays (λ k. k ≡ 5)
  pub either : c.either ≡ true

-- it is the line `15 14 1 * *`
pub record IsOnTheFirst (c : Cron) : Type 0 where
  pub minutes : Lists c.minutes (λ k. k ≡ 15)
  pub hours : Lists c.hours (λ k. k ≡ 14)
  pub days : Lists c.days (λ k. k ≡ 1)
  pub march : IsTrue (get_or c.months 3 false)
  pub monday : IsTrue (get_or c.weekdays 1 false)
  pub tuesday : IsTrue (get_or c.weekdays 2 false)
  pub not_either : c.either ≡ false
