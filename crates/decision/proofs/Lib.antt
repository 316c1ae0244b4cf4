-- The laws of the crate `decision`.
pub mod First
pub mod Order
pub mod Unique
