-- The laws of the crate `test`.
pub mod Load
pub mod Sides
pub mod Starts
pub mod Response
pub mod Compare
pub mod Plans
