pub mod Odd
pub mod OddOffset
