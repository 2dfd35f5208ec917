pub mod Words
pub mod Arounds
pub mod Digits
pub mod FixedOffsets
pub mod Printed
pub mod TimeDeltas
pub mod WallAnswers
pub mod ForCallers
