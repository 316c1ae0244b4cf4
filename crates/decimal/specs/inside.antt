-- What the functions of `decimal` promise each other: no public promise rests on it.
pub mod Placed
