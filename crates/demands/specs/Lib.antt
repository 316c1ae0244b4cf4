-- The demands as named propositions, every assumption in sight.
pub mod Demand2
pub mod Demand3
pub mod Callers
pub mod Settled
pub mod Versions
pub mod Board
