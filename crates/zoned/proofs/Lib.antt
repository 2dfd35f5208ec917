pub mod Words
pub mod ForCallers
mod Wrapped
mod Shown
mod Answered
mod FirstChange
mod LawfulZones
