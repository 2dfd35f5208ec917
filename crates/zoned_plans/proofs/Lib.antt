pub mod Words
pub mod FireTimes
pub mod RunMoves
pub mod ShownFires
pub mod LastShown
pub mod StepTimes
