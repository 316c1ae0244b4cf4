-- The definitions of the crate `marks`.
pub mod inside
