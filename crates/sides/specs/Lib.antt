-- The definitions of the crate `sides`.
pub mod inside
