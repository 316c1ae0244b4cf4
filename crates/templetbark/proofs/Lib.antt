-- The laws of the crate `templetbark`.
pub mod Said
