-- The laws of the crate `marks`.
pub mod Marks
pub mod Where
pub mod Unique
