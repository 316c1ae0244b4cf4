-- The laws of the crate `reading`.
pub mod Pieces
pub mod Words
pub mod Numbers
pub mod Cursors
pub mod Unique
