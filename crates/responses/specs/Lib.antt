-- The definitions of the crate `responses`.
pub mod inside
