-- When a schedule runs.
use Rattle.std.specs.declared.fmt.Debug as debug
use Rattle.std.specs.Prelude.{ℕ, ℤ, ◌≡◌, ◌≤◌, ⊤, Contains, Option, MatchOption}
use Rattle.zoned.specs.{DateOf.{day_of_month}, DateTime.{zoned}, DayPlans.{IsPlannedOnItsDay}, Fires.{IsZonedNextFire, NoneFiresAfter}, KeptZone.{law_of}}
use Rattle.zoned.specs.{NaiveTime.{second_of}, Weekday.{weekday_of, weekday_number}}
use Rattle.zoned.specs.declared.{Instant.{Instant}, NaiveTime.{NaiveTime}, ZoneOffset.{ZoneOffset}}
use Rattle.demo_examples.specs.declared.scheduler.{job.Job.{Job}, run_days.RunDays.{RunDays, TheVariants.{Every, Workdays, Weekday, MonthDay}}}
use Rattle.demo_examples.specs.declared.scheduler.schedule.Schedule.{Schedule}
use Rattle.zoned.specs.declared.Offset as offset

-- the day is a run day
abbrev pub RunsOn : RunDays → ℤ → Type 0
RunsOn Every day = ⊤
RunsOn Workdays day = (1 ≤ weekday_of day) × (weekday_of day ≤ 5)
RunsOn (Weekday weekday) day = weekday_of day ≡ weekday_number weekday
RunsOn (MonthDay n) day = day_of_month day ≡ n

-- the schedule has that second of that day
pub record IsPlannedOn (s : Schedule) (day : ℤ) (second : ℕ) : Type 0 where
  pub runs : RunsOn s.days day
  pub time : NaiveTime
  pub listed : Contains s.times.items time
  pub at : second_of time ≡ second

-- the schedule's local times
abbrev pub planned_by : Schedule → ℤ → Type 0
planned_by s = IsPlannedOnItsDay (IsPlannedOn s)

-- the first run of a job after the second t, or `None` if no run is in range
abbrev pub IsNextRun : {Tz : Type 0} {f : offset.Ghosts ZoneOffset} {g : debug.Ghosts ZoneOffset} → Job → ℤ → Option (Instant Tz ZoneOffset f g) → Type 0
IsNextRun job t next = let law = law_of job.zone in let plan = planned_by job.schedule in
    MatchOption next (NoneFiresAfter law.off plan t) (λ d. IsZonedNextFire law plan t (zoned d))
