pub mod Fires
pub mod Moves
pub mod Nearest
pub mod Policies
pub mod StepBounds
pub mod Steps
