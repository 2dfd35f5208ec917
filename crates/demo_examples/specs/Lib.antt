pub mod AnyZone
pub mod Fires
pub mod Nepal
pub mod Queues
