-- The definitions of the crate `decision`.
pub mod inside
