mod Bits
mod DayPlaces
mod DayWalk
mod CronWalk
mod TimeLists
mod Selected
mod ClockSteps
pub mod ForCallers
