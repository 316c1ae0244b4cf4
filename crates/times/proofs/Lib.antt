-- The laws of the crate `times`.
pub mod Busy
pub mod Answers
pub mod Unique
