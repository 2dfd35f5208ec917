-- What private functions ensure. No public contract cites these pages.
pub mod Sides
pub mod Seconds
