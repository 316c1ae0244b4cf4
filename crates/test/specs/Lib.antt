-- The definitions of the crate `test`.
pub mod Test
pub mod Answers
