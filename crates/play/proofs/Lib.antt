-- The laws of the crate `play`.
pub mod Standing
pub mod Turn
pub mod Unique
pub mod Within
