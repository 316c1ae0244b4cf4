-- The laws of the crate `planned`.
pub mod Written
