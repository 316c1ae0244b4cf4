-- The laws of the crate `program`.
pub mod Pages
pub mod Turns
