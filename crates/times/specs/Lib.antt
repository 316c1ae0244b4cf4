-- The definitions of the crate `times`.
pub mod inside
