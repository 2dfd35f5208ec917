pub mod Counts
pub mod RisingCounts
pub mod Digits
pub mod Search
pub mod Steps
