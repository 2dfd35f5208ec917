-- Steps of the proofs: what private functions ensure. No public contract cites a page of this folder.
pub mod RuleSteps
pub mod OccasionSteps
pub mod PositionSteps
pub mod RecurrenceSteps
