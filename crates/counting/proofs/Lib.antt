-- The laws of the crate `counting`.
pub mod Cases
pub mod Search
pub mod Up
pub mod Sum
pub mod Least
