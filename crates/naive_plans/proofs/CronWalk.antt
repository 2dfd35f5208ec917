-- The minutes of a date, one after another.
use Rattle.std.proofs.Common.{Bool, IsTrue}
use Rattle.gregorian.specs.Weekdays.{weekday_of}
use Rattle.naive_base.proofs.Words.{arith, false, true, ℕ, ℤ, ◌*◌, ◌+◌, ◌/◌, ◌<◌, ◌≡◌, ◌≤◌, get_or, date_is, days_in_month}
use Rattle.naive_plans.specs.{Cron.{IsCronDay, IsCronMinute, IsCronTime}, DayPlans.{HasNoSecondFrom, HasNoSecondUntil, IsFirstSecondFrom, IsLastSecondUntil}}
use Rattle.naive_plans.specs.{Steps.CronDates.{ListsNoDateBefore}, declared.cron.Cron.{Cron}}

-- all that it has on that day from a second on comes from a minute on
pub record IsLeft (c : Cron) (day : ℤ) (second minute : ℕ) : Type 0 where
  pub later : second ≤ minute * 60
  pub left : (k : ℕ) → IsCronTime c day k → second ≤ k → minute * 60 ≤ k

-- on a day of the line, from a second on
module _ {c : Cron} {day : ℤ} {second : ℕ} where
  pub all_left : IsLeft c day second ((second + 59) / 60)
  all_left = omega arith

  pub found : {minute : ℕ} → minute < 1440 → IsLeft c day second minute → IsCronDay c day → IsCronMinute c minute
      → IsFirstSecondFrom (IsCronTime c day) second (minute * 60)
  found = grind arith

  pub passed : {minute : ℕ} → IsLeft c day second minute → (IsCronMinute c minute → ⊥) → IsLeft c day second (minute + 1)
  passed {minute = minute} h not = record {
    later = omega arith;
    left = λ k planned from.
        let least = h.left k planned from in
        let other : k ≡ minute * 60 → ⊥ = λ same. not (let is : k / 60 ≡ minute = omega arith in rw is at planned.at) in grind (arith, other);
  }

  pub none : IsLeft c day second 1440 → HasNoSecondFrom (IsCronTime c day) second
  none = grind arith

-- ---- a line without a date
longest : (b : Bool) (m : ℕ) → days_in_month b m ≤ days_in_month true m
longest = grind arith

pub no_date : (c : Cron) (day : ℤ) → c.either ≡ false → ListsNoDateBefore c 13 → IsCronDay c day → ⊥
no_date = grind (arith, date_is, longest, none)

pub no_date_by_either : (c : Cron) (day : ℤ) → (c.either ≡ false → ⊥) → ListsNoDateBefore c 13 → (IsTrue (get_or c.weekdays (weekday_of day) false) → ⊥)
    → IsCronDay c day → ⊥
no_date_by_either = grind (arith, date_is, longest, none)

-- ---- and back
-- all that it has on that day up to a second comes before a minute
pub record IsLeftBefore (c : Cron) (day : ℤ) (second left : ℕ) : Type 0 where
  pub short : left ≤ 1440
  pub not_later : left * 60 ≤ second + 60
  pub before : (k : ℕ) → k < 86_400 → IsCronTime c day k → k ≤ second → k < left * 60

-- on a day of the line, up to a second
module _ {c : Cron} {day : ℤ} {second : ℕ} where
  pub found_last : {left : ℕ} → IsLeftBefore c day second (left + 1) → IsCronDay c day → IsCronMinute c left
      → IsLastSecondUntil (IsCronTime c day) second (left * 60)
  found_last {left = left} h on at = grind arith

  pub passed_back : {left : ℕ} → IsLeftBefore c day second (left + 1) → (IsCronMinute c left → ⊥) → IsLeftBefore c day second left
  passed_back {left = left} h not = record {
    short = omega arith;
    not_later = omega arith;
    before = λ k in_day planned come.
        let below = h.before k in_day planned come in
        let other : k ≡ left * 60 → ⊥ = λ same. not (let is : k / 60 ≡ left = omega arith in rw is at planned.at) in grind (arith, other);
  }

  pub none_back : IsLeftBefore c day second 0 → HasNoSecondUntil (IsCronTime c day) second
  none_back h k in_day planned come = grind arith

pub ruleset minutes_back = (found_last, passed_back, none_back)

pub ruleset minutes = (all_left, found, passed)

pub ruleset no_dates = (no_date, no_date_by_either)
