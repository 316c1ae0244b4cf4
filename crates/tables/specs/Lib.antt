-- The definitions of the crate `tables`.
pub mod Table
pub mod Plan
pub mod Planned
pub mod Jobs
pub mod Refusal
pub mod Answer
pub mod Checks
pub mod inside
