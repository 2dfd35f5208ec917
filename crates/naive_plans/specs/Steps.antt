-- Steps of the proofs: what private functions ensure. No public contract cites a page of this folder.
pub mod CronDates
pub mod StepPlaces
pub mod Members
pub mod Sets
