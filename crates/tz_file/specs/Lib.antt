pub mod FileHeaders
pub mod FileBlocks
pub mod FileContents
pub mod FilePieces
pub mod FileLists
