pub mod Floor
pub mod YearLaws
pub mod MonthDays
pub mod Cycle
pub mod DateLaws
pub mod WeekdayLaws
pub mod YearDays
pub mod ForCallers
