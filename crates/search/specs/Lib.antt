-- The definitions of the crate `search`.
pub mod inside
