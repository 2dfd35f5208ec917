pub mod Plans
pub mod DailyTimes
pub mod DayPlans
pub mod PlanSets
pub mod Cron
pub mod PartsOfDay
pub mod ClockSteps
pub mod Steps
