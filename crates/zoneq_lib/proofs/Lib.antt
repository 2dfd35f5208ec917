pub mod CitedWords
pub mod ScanLaws
pub mod Stopping
pub mod Covering
