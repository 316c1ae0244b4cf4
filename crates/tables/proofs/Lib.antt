-- The laws of the crate `tables`.
pub mod Rows
pub mod Plan
pub mod Numbers
pub mod Clear
pub mod Checked
pub mod Answered
pub mod Result
pub mod Front
pub mod Unique
