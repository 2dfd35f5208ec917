pub mod Words
pub mod FilePieceLaws
