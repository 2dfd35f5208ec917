pub mod InDay
mod ListedTimes
mod Waiting
mod Wrapped
