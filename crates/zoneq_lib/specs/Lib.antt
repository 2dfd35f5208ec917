pub mod Ends
pub mod Hex
pub mod Questions
pub mod Answers
pub mod Runs
pub mod Steps
