-- Steps of the proofs: what private functions ensure. No public contract cites a page of this folder.
pub mod Passed
pub mod Reached
