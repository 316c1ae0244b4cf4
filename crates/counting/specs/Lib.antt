-- The definitions of the crate `counting`.
pub mod Up
pub mod Sum
pub mod Least
