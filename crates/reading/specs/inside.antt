-- What the functions of `reading` promise each other: no public promise rests on it.
pub mod Piece
pub mod Grow
pub mod Read
