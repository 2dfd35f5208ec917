-- Steps of the proofs: what private functions ensure. No public contract cites a page of this folder.
pub mod KeptTimes
pub mod ResolvedInstants
pub mod Told
pub mod SetBack
pub mod ShownOnce
