-- What a rule asks of a date that is known.
use Rattle.std.specs.Prelude.{slice_index_or}
use Rattle.naive_rrule.specs.{declared.rule.NthWeekday.{NthWeekday}, RecurrenceRules.{Counts, IsEntry, ListsWeekday}}
use Rattle.tests_pins.proofs.Words.{IsDate, List, arith, date_only, day_number, day_of_month, day_of_year, day_of_year_is, days_of_months, ints, is_leap}
use Rattle.tests_pins.proofs.Words.{length, month_of, pos, refl, year_of, ℕ, ℤ, ◌*◌, ◌+ℤ◌, ◌+◌, ◌-◌, ◌<◌, ◌≡◌}

-- the date of a day, and how many days of its year come before it
pub record IsDated (day y : ℤ) (m d place : ℕ) : Type 0 where
  pub year : year_of day ≡ y
  pub month : month_of day ≡ m
  pub day_of_its_month : day_of_month day ≡ d
  pub day_of_its_year : day_of_year day ≡ place

pub dated : (y : ℤ) (m d : ℕ) → IsDate y m d → IsDated (day_number y m d) y m d (days_of_months (is_leap y) (m - 1) + (d - 1))
unfolding day_number
dated y m d h =
    let date = date_only (day_number y m d) y m d h refl in let own = rw date.0 at (day_of_year_is (day_number y m d)).0 in
    record { year = date.0; month = date.1; day_of_its_month = date.2; day_of_its_year = omega (arith, ints, own) }

pub counts : (interval times : ℕ) (first : ℤ) → Counts interval first (first +ℤ pos (times * interval))
counts interval times first = record { times = times; is = refl }

-- entry i of a list is that weekday
pub entry_at : (part : List NthWeekday) (i : ℕ) (entry : NthWeekday) (weekday before after : ℕ) → i < length part → slice_index_or part i entry ≡ entry
    → IsEntry weekday before after entry → ListsWeekday part weekday before after
entry_at part i entry weekday before after within same is = record { entry = entry; listed = (i, within, same); is = is }
