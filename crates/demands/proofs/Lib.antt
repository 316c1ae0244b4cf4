-- The theorems of the demands, each under its statement's name.
pub mod Gave
pub mod Columns
pub mod Demand2
pub mod Demand3
pub mod Callers
pub mod Settled
pub mod Versions
pub mod Board
