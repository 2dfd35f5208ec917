pub mod Words
pub mod ForCallers
mod Narrow
pub mod Instants
pub mod Offsets
pub mod Walls
pub mod Gaps
pub mod Choices
pub mod Changes
pub mod Days
