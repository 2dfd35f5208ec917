pub mod Sides
pub mod Amounts
pub mod Steps
