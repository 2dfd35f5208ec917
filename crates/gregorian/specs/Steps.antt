-- Steps of the proofs: how the year and the date of a day are found, and closed forms. No public contract cites a page of this
-- folder.
pub mod Floor
pub mod Years
pub mod Dates
pub mod Cycle
