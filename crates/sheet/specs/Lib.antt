-- The definitions of the crate `sheet`.
pub mod Sheet
pub mod Answers
pub mod Rounding
pub mod Figures
pub mod inside
