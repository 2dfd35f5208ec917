-- What private functions ensure: the texts of the pieces, and the names, the parts and the bytes of a file. No public contract cites
-- these pages.
pub mod TextPieces
pub mod LaidNames
pub mod LaidFiles
pub mod FileParts
