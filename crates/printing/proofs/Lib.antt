-- The laws of the crate `printing`.
pub mod Printed
pub mod Answers
pub mod Most
pub mod Inverse
pub mod Unique
