-- The laws of the crate `search`.
pub mod Pairs
pub mod Period
pub mod Turn
pub mod Lengths
pub mod Trial
pub mod Seen
pub mod Timed
pub mod Runs
pub mod Going
pub mod Unique
