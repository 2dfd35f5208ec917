-- Steps of the proofs: what private functions ensure, and what private fields keep. No contract of a public function cites a
-- page of this folder.
pub mod Search
pub mod Hints
