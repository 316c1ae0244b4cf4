-- The definitions of the crate `program`.
pub mod Reply
pub mod Run
pub mod inside
