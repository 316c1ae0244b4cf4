-- The laws of the crate `decimal`.
pub mod Decimal
pub mod Placed
