-- The definitions of the crate `planned`.
pub mod inside
