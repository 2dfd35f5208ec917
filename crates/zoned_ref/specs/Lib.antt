pub mod Instants
pub mod KeptZone
pub mod OffsetAt
pub mod Offsets
pub mod Steps
pub mod TimeZoneRef
pub mod ZoneChange
pub mod ZoneOffset
