pub mod Words
mod RuleTexts
mod TextBytes
pub mod LaidNames
pub mod FileWritten
