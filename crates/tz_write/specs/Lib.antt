pub mod WrittenTexts
pub mod FileDesignations
pub mod FileBytes
pub mod WrittenFiles
pub mod Steps
