pub mod CitedWords
mod LineLaws
mod TableLaws
pub mod JsonPutting
