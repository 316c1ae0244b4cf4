-- The laws of the crate `joblist`.
pub mod Walk
pub mod Unique
