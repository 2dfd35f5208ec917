pub mod Words
pub mod Fits
pub mod FirstItems
pub mod DigitLaws
pub mod SearchSteps
