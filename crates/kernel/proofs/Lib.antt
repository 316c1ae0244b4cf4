-- The laws of the crate `kernel`.
pub mod Rule
pub mod Locked
pub mod Executed
pub mod Steady
pub mod Finishing
pub mod Level
