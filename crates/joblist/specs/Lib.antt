-- The definitions of the crate `joblist`.
pub mod inside
