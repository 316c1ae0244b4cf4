-- The definitions of the crate `printing`.
pub mod Printed
pub mod Answers
pub mod inside
