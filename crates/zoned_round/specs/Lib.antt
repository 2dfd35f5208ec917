pub mod Multiples
pub mod Subseconds
pub mod Durations
pub mod Laws
pub mod Steps
