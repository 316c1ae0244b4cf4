-- The definitions of the crate `play`.
pub mod inside
