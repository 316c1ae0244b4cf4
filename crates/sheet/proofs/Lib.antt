-- The laws of the crate `sheet`.
pub mod Lines
pub mod Reading
pub mod Fronts
pub mod Ticks
pub mod Rounding
pub mod Answers
pub mod Figures
