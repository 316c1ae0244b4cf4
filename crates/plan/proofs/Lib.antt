-- The laws of the crate `plan`.
pub mod Answers
pub mod Unique
