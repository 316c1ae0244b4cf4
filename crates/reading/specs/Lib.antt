-- The definitions of the crate `reading`.
pub mod Begins
pub mod inside
