-- The definitions of the crate `starred`.
pub mod Figures
