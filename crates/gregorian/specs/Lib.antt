pub mod Year
pub mod Month
pub mod Date
pub mod DateOf
pub mod Weekdays
pub mod Weeks
pub mod Steps
