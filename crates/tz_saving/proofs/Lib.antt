pub mod Words
pub mod SideLaws
pub mod AmountLaws
