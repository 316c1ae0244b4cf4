-- The definitions of the crate `choice`.
pub mod Choice
pub mod Answers
