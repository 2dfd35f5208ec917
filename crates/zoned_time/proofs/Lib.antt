pub mod Words
pub mod Answered
pub mod Days
pub mod DayStarts
pub mod DayEnds
pub mod ReachedTimes
pub mod CalendarLengths
pub mod ForCallers
pub mod Homes
pub mod Instants
pub mod Once
pub mod Relocals
pub mod Stays
pub mod Walls
mod Choices
pub mod Printed
