-- The laws of the crate `choice`.
pub mod Level
pub mod Ranked
pub mod Filled
pub mod Placed
pub mod Exchange
pub mod Complete
pub mod Exists
