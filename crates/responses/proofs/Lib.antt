-- The laws of the crate `responses`.
pub mod Stored
pub mod Pairs
pub mod Plans
pub mod Jobs
pub mod Largest
pub mod Same
pub mod Row
pub mod Ranked
pub mod Levels
pub mod Unique
