-- The definitions of the crate `kernel`.
pub mod Rule
pub mod Answers
