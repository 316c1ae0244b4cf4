-- The definitions of the crate `templetbark`.
pub mod Said
