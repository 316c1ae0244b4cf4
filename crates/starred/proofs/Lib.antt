-- The proofs of the crate `starred`.
pub mod Tests
pub mod Seen
pub mod Trials
pub mod Clears
pub mod Figures
